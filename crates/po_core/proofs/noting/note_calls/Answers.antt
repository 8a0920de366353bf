-- What is noted so far and what the command has ended since are all that has ended.
use Rattle.std.proofs.Common.{◌≡◌, ◌≤◌, ◌-◌, ◌++◌, length, take, drop, vec_len, ap₂, ◌∙◌, sym, subst}
use Rattle.std.specs.List.{All, count_by}
use Rattle.po_engine.specs.Ending.{has_ended}
use Rattle.po_core.specs.Outcomes.{AreOutcomes, IsCallOf}
use Rattle.po_core.proofs.Noted.{rest_noted}
use Rattle.po_core.proofs.noting.note_calls.Goals as goal

pub note_ends-requires-clause-once : goal.note_ends-requires-clause-once
note_ends-requires-clause-once g c =
    let s = c.args.state.now in
    let noted = c.args.noted in
    let whole : c.args.ended.now.items ++ take (length c.ended_now.result.now - noted) (drop noted c.ended_now.result.now) ≡ s.state.ended =
    ap₂ (λ l n. l ++ take (length n - noted) (drop noted n)) c.requires.shown c.ended_now.ensures ∙ rest_noted s.state.ended s.before noted (vec_len c.args.ended.now) c.requires.noted c.requires.before in
    λ n. subst (λ l. count_by (has_ended n) l ≤ 1) (sym whole) (c.requires.once n)

pub note_ends-requires-clause-calls : goal.note_ends-requires-clause-calls
note_ends-requires-clause-calls g c =
    let s = c.args.state.now in
    let noted = c.args.noted in
    let whole : c.args.ended.now.items ++ take (length c.ended_now.result.now - noted) (drop noted c.ended_now.result.now) ≡ s.state.ended =
    ap₂ (λ l n. l ++ take (length n - noted) (drop noted n)) c.requires.shown c.ended_now.ensures ∙ rest_noted s.state.ended s.before noted (vec_len c.args.ended.now) c.requires.noted c.requires.before in
    rw c.release.ensures (subst (All (λ x. IsCallOf c.args.history.now x.number)) (sym whole) c.requires.calls)

pub returns-clause-outcomes : goal.returns-clause-outcomes
returns-clause-outcomes g c =
    let s = c.args.state.now in
    let noted = c.args.noted in
    let whole : c.args.ended.now.items ++ take (length c.ended_now.result.now - noted) (drop noted c.ended_now.result.now) ≡ s.state.ended =
    ap₂ (λ l n. l ++ take (length n - noted) (drop noted n)) c.requires.shown c.ended_now.ensures ∙ rest_noted s.state.ended s.before noted (vec_len c.args.ended.now) c.requires.noted c.requires.before in
    subst (AreOutcomes c.note_ends.new.history) (c.note_ends.ensures.ended ∙ whole) c.note_ends.ensures.outcomes
