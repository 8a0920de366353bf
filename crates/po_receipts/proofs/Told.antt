-- What a pass was told stays true as its caller sees more of the history and as it files receipts.
use Rattle.std.proofs.Common.{◌≡◌, ℕ, List, [], ◌∷◌, ◌++◌, sym, subst, Option, Some, None, Result}
use mathlib.Core.List.{IsPrefix}
use base.Growing.{prefix_refl, prefix_trans}
use Rattle.po_calls.specs.declared.end.End.{End}
use Rattle.po_history.specs.declared.event.Event.{Event}
use Rattle.po_history.specs.declared.event.Event.TheVariants.{Issue, Procedure}
use Rattle.po_receipts.specs.declared.asked.Asked.{Asked}
use Rattle.po_receipts.specs.declared.receipt.Receipt.{Receipt}
use Rattle.po_receipts.specs.declared.receipt.Receipt.TheVariants as R
use Rattle.po_receipts.specs.Told.{HappensBetween, IsAskedBetween, IsAnswerBetween, AreAnswersBetween}

module _ {V : Type 0} where
  -- what has happened stays so in a longer history
  pub further : (event : Event V) (before mid after : List (Event V)) → HappensBetween event before mid → IsPrefix mid after → HappensBetween event before after
  further event before mid after h p = record { here = h.here; later = h.later; within = prefix_trans (h.here ++ event ∷ []) mid after h.within p }

  -- what happened after more events happened after fewer
  earlier : (event : Event V) (before mid after : List (Event V)) → IsPrefix before mid → HappensBetween event mid after → HappensBetween event before after
  earlier event before mid after p h = record { here = h.here; later = prefix_trans before mid h.here p h.later; within = h.within }

module _ {V : Type 0} (seat : ℕ) (end_of : List (Event V) → ℕ → Option (End V)) where
  -- what a pass with this pending call and these receipts was told
  abbrev pub Told : Option (Asked V) → List (Receipt V) → List (Event V) → Type 0
  Told pending receipts seen = (here : List (Event V)) × (AreAnswersBetween seat end_of receipts [] here × IsAskedBetween seat pending here seen)

  earlier-answer : (receipt : Receipt V) (before mid after : List (Event V)) → IsPrefix before mid → IsAnswerBetween seat end_of receipt mid after → IsAnswerBetween seat end_of receipt before after
  earlier-answer (R.Called n e v d answer) before mid after p h = (earlier (Issue n seat e v d) before mid after p h.0, h.1)
  earlier-answer (R.Ran op v reply) before mid after p h = earlier (Procedure seat op v reply) before mid after p h

  -- one receipt more
  filed : (receipts : List (Receipt V)) (receipt : Receipt V) (before here mid after : List (Event V)) → AreAnswersBetween seat end_of receipts before here → IsPrefix here mid → IsAnswerBetween seat end_of receipt mid after
      → AreAnswersBetween seat end_of (receipts ++ receipt ∷ []) before after
  filed [] receipt before here mid after told p answer = (after, (earlier-answer receipt before mid after (prefix_trans before here mid told p) answer, prefix_refl after))
  filed (first ∷ receipts) receipt before here mid after told p answer = (told.0, (told.1.0, filed receipts receipt told.0 here mid after told.1.1 p answer))

  -- the receipts say what happened in a longer history too
  pub longer : (receipts : List (Receipt V)) (before here after : List (Event V)) → AreAnswersBetween seat end_of receipts before here → IsPrefix here after → AreAnswersBetween seat end_of receipts before after
  longer [] before here after told p = prefix_trans before here after told p
  longer (receipt ∷ receipts) before here after told p = (told.0, (told.1.0, longer receipts told.0 here after told.1.1 p))

  -- what a pass was told stays true as its caller sees more
  pub told-later : (pending : Option (Asked V)) (receipts : List (Receipt V)) (seen after : List (Event V)) → Told pending receipts seen → IsPrefix seen after → Told pending receipts after
  told-later None receipts seen after told p = (told.0, (told.1.0, prefix_trans told.0 seen after told.1.1 p))
  told-later (Some asked) receipts seen after told p = (told.0, (told.1.0, further (Issue asked.ticket.number seat asked.entry asked.value asked.deadline) told.0 seen after told.1.1 p))

  pub told-first : Told None [] []
  told-first = ([], (prefix_refl [], prefix_refl []))

  -- a procedure that ran
  pub told-ran : (pending : Option (Asked V)) (receipts : List (Receipt V)) (op : ℕ) (value : V) (reply : Result V ℕ) (seen after : List (Event V)) → pending ≡ None → Told pending receipts seen → HappensBetween (Procedure seat op value reply) seen after
      → Told pending (receipts ++ R.Ran op value reply ∷ []) after
  told-ran pending receipts op value reply seen after none told h =
      let before : IsPrefix told.0 seen = subst (λ o. IsAskedBetween seat o told.0 seen) none told.1.1 in
      subst (λ o. Told o (receipts ++ R.Ran op value reply ∷ []) after) (sym none) (after, (filed receipts (R.Ran op value reply) [] told.0 seen after told.1.0 before h, prefix_refl after))

  -- a call that was issued
  pub told-asked : (pending : Option (Asked V)) (asked : Asked V) (receipts : List (Receipt V)) (seen after : List (Event V)) → pending ≡ None → Told pending receipts seen
      → HappensBetween (Issue asked.ticket.number seat asked.entry asked.value asked.deadline) seen after → Told (Some asked) receipts after
  told-asked pending asked receipts seen after none told h =
      let before : IsPrefix told.0 seen = subst (λ o. IsAskedBetween seat o told.0 seen) none told.1.1 in
      (told.0, (told.1.0, earlier (Issue asked.ticket.number seat asked.entry asked.value asked.deadline) told.0 seen after before h))

  -- a call that has ended
  pub told-ended : (pending : Option (Asked V)) (asked : Asked V) (receipts : List (Receipt V)) (answer : End V) (seen after : List (Event V)) → pending ≡ Some asked → Told pending receipts seen → IsPrefix seen after
      → end_of after asked.ticket.number ≡ Some answer → Told None (receipts ++ R.Called asked.ticket.number asked.entry asked.value asked.deadline answer ∷ []) after
  told-ended pending asked receipts answer seen after some told p is =
      let issued : HappensBetween (Issue asked.ticket.number seat asked.entry asked.value asked.deadline) told.0 seen = subst (λ o. IsAskedBetween seat o told.0 seen) some told.1.1 in
      let receipt = R.Called asked.ticket.number asked.entry asked.value asked.deadline answer in
      (after, (filed receipts receipt [] told.0 told.0 after told.1.0 (prefix_refl told.0) (further (Issue asked.ticket.number seat asked.entry asked.value asked.deadline) told.0 seen after issued p, is), prefix_refl after))
