-- What callers are told of a command is found.
use Rattle.std.proofs.Common.{◌≡◌, ℕ, ◌<◌, List, Option, refl, sym, ap, ◌∙◌, subst, get_or, length}
use Rattle.std.proofs.lemmas.List.{get_or_default}
use Rattle.std.specs.Prelude.{Contains, IfSome, slice_index, Ok, Err}
use Rattle.po_calls.specs.declared.end.End.TheVariants.{Completed as CompletedEnd, Raised as RaisedEnd, Cancelled as CancelledEnd, ProgramError as ProgramErrorEnd}
use Rattle.po_core.specs.declared.refusal.Refusal.TheVariants.{NoSuchEntry, PrivateEntry, BadIndex, NoSuchOperation, UnknownCall, AlreadyEnded, Finalized, NumbersSpent, OutOfMemory, NoCall, TooManyCalls}
use Rattle.po_scene.specs.declared.scene.Scene.{Scene}
use Rattle.po_explore.specs.declared.news.News.{News}
use Rattle.po_explore.specs.declared.news.Event.{Event}
use Rattle.po_explore.specs.declared.news.Event.TheVariants.{Ended, Replied, Failed, Refused}
use Rattle.po_explore.specs.declared.finding.Found.{Found}
use Rattle.po_explore.specs.declared.finding.Kind.{Kind}
use Rattle.po_explore.specs.Scenes.{StageView}
use Rattle.po_explore.specs.News.{kind_of, answer_of}
use Rattle.po_explore.specs.Findings.{line_of, Shows, AllShown}

module _ (scene : Scene) (stage : StageView) (told : List News) (n : News) where
  -- what is wrong with some of the news is found
  pub found_wrong : (event : Event) → n.event ≡ event → Contains told n
      → IfSome (kind_of event) (λ k. Shows scene stage told (record { kind = k; line = line_of scene stage n.caller }))
  found_wrong (Ended (CompletedEnd values)) is there = tt
  found_wrong (Ended (RaisedEnd exception)) is there = (n, there, ap kind_of is, refl)
  found_wrong (Ended CancelledEnd) is there = tt
  found_wrong (Ended ProgramErrorEnd) is there = (n, there, ap kind_of is, refl)
  found_wrong (Replied (Ok values)) is there = tt
  found_wrong (Replied (Err exception)) is there = (n, there, ap kind_of is, refl)
  found_wrong (Failed exception) is there = (n, there, ap kind_of is, refl)
  found_wrong (Refused NoSuchEntry) is there = (n, there, ap kind_of is, refl)
  found_wrong (Refused PrivateEntry) is there = (n, there, ap kind_of is, refl)
  found_wrong (Refused BadIndex) is there = (n, there, ap kind_of is, refl)
  found_wrong (Refused NoSuchOperation) is there = (n, there, ap kind_of is, refl)
  found_wrong (Refused UnknownCall) is there = (n, there, ap kind_of is, refl)
  found_wrong (Refused AlreadyEnded) is there = (n, there, ap kind_of is, refl)
  found_wrong (Refused Finalized) is there = (n, there, ap kind_of is, refl)
  found_wrong (Refused NumbersSpent) is there = (n, there, ap kind_of is, refl)
  found_wrong (Refused OutOfMemory) is there = (n, there, ap kind_of is, refl)
  found_wrong (Refused NoCall) is there = (n, there, ap kind_of is, refl)
  found_wrong (Refused TooManyCalls) is there = (n, there, ap kind_of is, refl)

  -- and so is an answer with which nothing is wrong
  pub found_answer : (event : Event) → n.event ≡ event → Contains told n
      → IfSome (answer_of event (slice_index stage.made n.caller)) (λ k. Shows scene stage told (record { kind = k; line = line_of scene stage n.caller }))
  found_answer (Ended (CompletedEnd values)) is there = (n, there, ap (λ e. answer_of e (slice_index stage.made n.caller)) is, refl)
  found_answer (Ended (RaisedEnd exception)) is there = tt
  found_answer (Ended CancelledEnd) is there = (n, there, ap (λ e. answer_of e (slice_index stage.made n.caller)) is, refl)
  found_answer (Ended ProgramErrorEnd) is there = tt
  found_answer (Replied (Ok values)) is there = (n, there, ap (λ e. answer_of e (slice_index stage.made n.caller)) is, refl)
  found_answer (Replied (Err exception)) is there = tt
  found_answer (Failed exception) is there = tt
  found_answer (Refused why) is there = tt

-- some of the news is among them
there : (told : List News) (i : ℕ) (d : News) → i < length told → Contains told (get_or told i d)
there told i d low = (i, low, get_or_default told i (get_or told i d) d low)

module _ (scene : Scene) (stage : StageView) (told : List News) (i : ℕ) (d : News) where
  -- what is wrong with the news that has this position is found
  pub wrong_told : (kind : Option Kind) → kind ≡ kind_of (get_or told i d).event → i < length told
      → IfSome kind (λ k. Shows scene stage told (record { kind = k; line = line_of scene stage (get_or told i d).caller }))
  wrong_told kind is low =
      subst (λ k. IfSome k (λ k. Shows scene stage told (record { kind = k; line = line_of scene stage (get_or told i d).caller }))) (sym is)
      (found_wrong scene stage told (get_or told i d) (get_or told i d).event refl (there told i d low))

  -- and so is its answer
  pub answer_told : (kind : Option Kind) (number : ℕ) → kind ≡ answer_of (get_or told i d).event number
      → number ≡ slice_index stage.made (get_or told i d).caller → i < length told
      → IfSome kind (λ k. Shows scene stage told (record { kind = k; line = line_of scene stage (get_or told i d).caller }))
  answer_told kind number is at low =
      subst (λ k. IfSome k (λ k. Shows scene stage told (record { kind = k; line = line_of scene stage (get_or told i d).caller }))) (sym (is ∙ ap (λ n. answer_of (get_or told i d).event n) at))
      (found_answer scene stage told (get_or told i d) (get_or told i d).event refl (there told i d low))

-- what is at a position is among them
pub among : (list : List Found) (i : ℕ) (d : Found) → i < length list → Contains list (get_or list i d)
among list i d low = (i, low, get_or_default list i (get_or list i d) d low)

-- what is among those that are shown is shown
pub shown_among : (scene : Scene) (stage : StageView) (told : List News) (list : List Found) (found : Found) → AllShown scene stage told list
    → Contains list found → Shows scene stage told found
shown_among scene stage told list found all at = subst (Shows scene stage told) at.2 (all at.0 found at.1)
