-- Volumes that are parts of one log and run on up to the base are those that the object's cuts handed out.
use Rattle.std.proofs.Common.{◌≡◌, ℕ, ◌+◌, List, [], ◌∷◌, ◌++◌, Option, Some, None, refl, sym, ◌∙◌, subst, append_assoc, length, length-append, add-zero, arith}
use Rattle.std.specs.Prelude.{map, count_by, Result, Ok, Err, IfOk, IfErr, OnErr}
use Rattle.std.specs.List.{All}
use Rattle.std.proofs.lemmas.List.Elements.{All-head, All-tail, All-weaker, All-push}
use mathlib.Core.List.{IsPrefix, append-nil}
use base.Growing.{prefix_trans}
use Rattle.po_unit.specs.Meaning.{Meaning}
use Rattle.po_history.specs.declared.event.Event.{Event}
use Rattle.po_history.specs.Histories.{VolumeView, RunOn, joined}
use Rattle.po_engine.specs.Finding.{IsFound}
use Rattle.po_engine.specs.ObjectState.{opening_state}
use Rattle.po_engine.specs.Pick.{last_from}
use Rattle.po_core.specs.Setup.{Setup}
use Rattle.po_core.specs.Base.{is_ran}
use Rattle.po_core.specs.View.{View, base_state}
use Rattle.po_core.specs.Cutting.{AreVolumes, Leads, arrival_in}
use Rattle.po_core.proofs.Joining.{ends-at}
use Rattle.po_receipts.specs.OneHistory.{HoldsAt, IsCutOff, IsWholeLog}
use Rattle.po_object.specs.Parts.{IsPartOf, AreParts}

-- beginnings of one list that are equally long are the same
prefix-same : {X : Type 0} (xs ys zs : List X) → IsPrefix xs zs → IsPrefix ys zs → length xs ≡ length ys → xs ≡ ys
prefix-same [] [] zs p q h = refl
prefix-same [] (y ∷ ys) zs p q h = absurd (omega arith)
prefix-same (x ∷ xs) [] zs p q h = absurd (omega arith)
prefix-same (x ∷ xs) (y ∷ ys) [] p q h = absurd (cc (p.1))
prefix-same (x ∷ xs) (y ∷ ys) (z ∷ zs) p q h =
    let rest = prefix-same xs ys zs (p.0, cc (p.1)) (q.0, cc (q.1)) (omega arith) in
    cc (p.1, q.1, rest)

module _ {S V : Type 0} (setup : Setup S) where
  -- what is a part of the log stays so as the log goes on
  pub part-later : (before after : List (Event V)) (volume : VolumeView V) → IsPrefix before after → IsPartOf setup volume before → IsPartOf setup volume after
  part-later before after volume more part = record {
    earlier = part.earlier;
    within = prefix_trans (part.earlier ++ volume.events) before after part.within more;
    placed = part.placed;
  }

  -- volumes that are parts of the log and run on are all of it between two places
  parts-joined : (log before : List (Event V)) (volumes : List (VolumeView V)) (from to : ℕ) → RunOn from volumes to → All (λ volume. IsPartOf setup volume log) volumes
      → from ≡ setup.first_place + length before → IsPrefix before log → IsPrefix (before ++ joined volumes) log
  parts-joined log before [] from to run parts at begins = subst (λ (l : List (Event V)). IsPrefix l log) (sym (append-nil before)) begins
  parts-joined log before (volume ∷ volumes) from to run parts at begins =
      let part = All-head (λ volume. IsPartOf setup volume log) volume volumes parts in
      let rest = All-tail (λ volume. IsPartOf setup volume log) volume volumes parts in
      let starts = run.0 in
      let placed = part.placed in
      let first = prefix_trans part.earlier (part.earlier ++ volume.events) log (volume.events, refl) part.within in
      let same : part.earlier ≡ before = prefix-same part.earlier before log first begins (omega (arith, starts, placed, at)) in
      let further : IsPrefix (before ++ volume.events) log = subst (λ (l : List (Event V)). IsPrefix (l ++ volume.events) log) same part.within in
      let long = length-append before volume.events in
      subst (λ (l : List (Event V)). IsPrefix l log) (append_assoc before volume.events (joined volumes))
      (parts-joined log (before ++ volume.events) volumes (from + length volume.events) to run.1 rest (omega (arith, at, long)) further)

part-later-of : {S V : Type 0} (made : Option (Setup S)) (before after : List (Event V)) (volume : VolumeView V) → IsPrefix before after
    → IsFound (λ setup. IsPartOf setup volume before) made → IsFound (λ setup. IsPartOf setup volume after) made
part-later-of None before after volume more part = absurd part
part-later-of (Some setup) before after volume more part = part-later setup before after volume more part

-- what are parts of what was seen are parts of what is seen later
pub parts-later : {S V : Type 0} (made : Option (Setup S)) (before after : List (Event V)) (volumes : List (VolumeView V)) → IsPrefix before after → AreParts made before volumes → AreParts made after volumes
parts-later made before after volumes more parts =
    All-weaker (λ volume. IsFound (λ setup. IsPartOf setup volume before) made) (λ volume. IsFound (λ setup. IsPartOf setup volume after) made) (λ volume. part-later-of made before after volume more) volumes parts

module _ {S V : Type 0} (m : Meaning S V) where
  -- they are the volumes that the cuts handed out
  pub are-volumes : (view : View S V) (log : List (Event V)) (volumes : List (VolumeView V)) → IsWholeLog m view log → RunOn view.setup.first_place volumes view.base.place
      → All (λ volume. IsPartOf view.setup volume log) volumes → AreVolumes m view volumes
  are-volumes view log volumes whole run parts =
      let first = view.setup.first_place in
      let begins = parts-joined view.setup log [] volumes first view.base.place run parts (sym (add-zero first)) (log, refl) in
      let ends = ends-at first volumes view.base.place run in
      let others = ends-at first whole.0 view.base.place whole.1.run_on in
      let same : joined whole.0 ≡ joined volumes = prefix-same (joined whole.0) (joined volumes) log (view.events, sym whole.2) begins (omega (arith, ends, others)) in
      record {
        run_on = run;
        leads = subst (λ (l : List (Event V)). Leads m view.setup l (opening_state view.setup.opening view.setup.first_number) (base_state view)) same whole.1.leads;
        arrivals = subst (λ (l : List (Event V)). view.base.arrivals ≡ map (λ x. arrival_in m view.setup l x.number) view.base.waiting) same whole.1.arrivals;
        ran = subst (λ (l : List (Event V)). view.base.ran ≡ count_by is_ran l) same whole.1.ran;
        last = subst (λ (l : List (Event V)). view.base.last ≡ last_from None l) same whole.1.last;
      }

  -- the same by what a caller has seen, of the object that was opened
  pub are-volumes-seen : (made : Option (Setup S)) (view : View S V) (seen log : List (Event V)) (volumes : List (VolumeView V)) → made ≡ Some view.setup → IsPrefix seen log
      → AreParts made seen volumes → IsWholeLog m view log → RunOn view.setup.first_place volumes view.base.place → AreVolumes m view volumes
  are-volumes-seen made view seen log volumes is begins parts whole run =
      are-volumes view log volumes whole run
      (subst (λ (o : Option (Setup S)). AreParts o log volumes) is (parts-later made seen log volumes begins parts))

  held-later : (made : Option (Setup S)) (holds : View S V → Type 0) (before after : List (Event V)) → IsFound (λ setup. HoldsAt m setup holds before after) made → IsPrefix before after
  held-later None holds before after held = absurd held
  held-later (Some setup) holds before after held = held.later

  -- what a cut hands out is a part of what is seen afterwards
  cut-part : (setup : Setup S) (volume : VolumeView V) (before after : List (Event V)) → IsCutOff m setup volume before after → IsPartOf setup volume after
  cut-part setup volume before after off = record {
    earlier = off.part.0;
    within = ([], append-nil (off.part.0 ++ volume.events) ∙ off.part.1);
    placed = off.part.2;
  }

  -- and so the volumes of earlier cuts still are
  pub parts-on : (made : Option (Setup S)) (volume : VolumeView V) (before after : List (Event V)) (volumes : List (VolumeView V))
      → IsFound (λ setup. IsCutOff m setup volume before after) made → AreParts made before volumes → AreParts made after (volumes ++ volume ∷ [])
  parts-on None volume before after volumes off parts = absurd off
  parts-on (Some setup) volume before after volumes off parts =
      All-push (λ volume. IsPartOf setup volume after) volumes volume
      (parts-later (Some setup) before after volumes off.later parts)
      (cut-part setup volume before after off)

  -- so each cut that is not refused joins its volume to those of earlier cuts
  pub cut-joins : {E : Type 0} (made : Option (Setup S)) (result : Result (VolumeView V) E) (before after : List (Event V))
      → IfOk result (λ volume. IsFound (λ setup. IsCutOff m setup volume before after) made)
      → IfOk result (λ volume. (volumes : List (VolumeView V)) → AreParts made before volumes → AreParts made after (volumes ++ volume ∷ []))
  cut-joins made (Ok volume) before after off = λ volumes parts. parts-on made volume before after volumes off parts
  cut-joins made (Err fault) before after off = tt

  -- and a cut that is refused keeps those of earlier cuts
  pub cut-keeps : {X E : Type 0} (made : Option (Setup S)) (result : Result X E) (holds : E → View S V → Type 0) (before after : List (Event V))
      → IfErr result (λ fault. IsFound (λ setup. HoldsAt m setup (holds fault) before after) made)
      → OnErr result ((volumes : List (VolumeView V)) → AreParts made before volumes → AreParts made after volumes)
  cut-keeps made (Ok x) holds before after held = tt
  cut-keeps made (Err fault) holds before after held = λ volumes parts. parts-later made before after volumes (held-later made (holds fault) before after held) parts
