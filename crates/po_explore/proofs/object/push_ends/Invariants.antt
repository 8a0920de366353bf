use Rattle.std.proofs.Common.{◌≡◌, ◌++◌, map, take}
use Rattle.po_explore.specs.News.{end_news}
use Rattle.po_explore.proofs.object.push_ends.Given as goal

-- what the earlier ends tell is added
abbrev pub invariant-loop-ended : goal.invariant-loop-ended
invariant-loop-ended l = l.news.items ≡ l.fn.news.items ++ map end_news (take l.ended-index l.all)
