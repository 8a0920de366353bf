-- The volumes of a history, after one more was cut off.
use Rattle.std.proofs.Common.{ℕ, ◌≡◌, ◌+◌, List, [], ◌∷◌, ◌++◌, length, refl, sym, ap, ◌∙◌, subst, append_assoc}
use Rattle.std.proofs.lemmas.List.{append-nil}
use Rattle.po_history.specs.Histories.{VolumeView, HistoryView, joined, RunOn, AreVolumesOf, all_events}

module _ {V : Type 0} where
  -- If volumes run on to the place at which another begins, then with that one they run on to its end.
  pub run_on-append :
      (from : ℕ) (volumes : List (VolumeView V)) (to : ℕ) (volume : VolumeView V)
      → RunOn from volumes to → volume.first_place ≡ to
      → RunOn from (volumes ++ volume ∷ []) (to + length volume.events)
  run_on-append from [] to volume runs begins = (begins ∙ sym runs, ap (λ n. n + length volume.events) runs)
  run_on-append from (v ∷ volumes) to volume runs begins =
      (runs.0, run_on-append (from + length v.events) volumes to volume runs.1 begins)

  -- The events of one more volume come last.
  pub joined-append :
      (volumes : List (VolumeView V)) (volume : VolumeView V)
      → joined (volumes ++ volume ∷ []) ≡ joined volumes ++ volume.events
  joined-append [] volume = append-nil volume.events
  joined-append (v ∷ volumes) volume =
      ap (λ events. v.events ++ events) (joined-append volumes volume)
      ∙ sym (append_assoc v.events (joined volumes) volume.events)

  -- After a cut, the volumes with the new one run on to the present, and no event is lost.
  pub cut_off :
      (old new : HistoryView V) (volume : VolumeView V)
      → volume ≡ record { first_place = old.place; events = old.events }
      → new ≡ record old { place = old.place + length old.events; events = [] }
      → (from : ℕ) (volumes : List (VolumeView V)) → AreVolumesOf from volumes old
      → AreVolumesOf from (volumes ++ volume ∷ []) new
      × (all_events (volumes ++ volume ∷ []) new ≡ all_events volumes old)
  cut_off old new volume is_old is_new from volumes are =
      let cut : VolumeView V = record { first_place = old.place; events = old.events } in
      let rest : HistoryView V = record old { place = old.place + length old.events; events = [] } in
      let Kept = λ (v : VolumeView V) (h : HistoryView V).
      AreVolumesOf from (volumes ++ v ∷ []) h
      × (all_events (volumes ++ v ∷ []) h ≡ all_events volumes old) in
      let at_cut : Kept cut rest =
      (run_on-append from volumes old.place cut are refl, append-nil _ ∙ joined-append volumes cut) in
      subst (λ v. Kept v new) (sym is_old) (subst (λ h. Kept cut h) (sym is_new) at_cut)
