-- The volumes before a base remain the history before it, whatever command follows.
use Rattle.std.proofs.Common.{◌≡◌, ℕ, ◌≤◌, List, [], ◌∷◌, take, length, refl, ap, sym, ◌∙◌, Option}
use Rattle.po_unit.specs.Meaning.{Meaning}
use Rattle.po_history.specs.declared.event.Event.{Event}
use Rattle.po_core.specs.Base.{state_with, state_at}
use Rattle.po_engine.specs.ObjectState.{ObjectState}
use Rattle.po_engine.specs.Step.{replay, step}
use Rattle.po_core.specs.View.{View, base_state}
use Rattle.po_core.specs.Progress.{Begins, Settles, IsSameCommand}
use Rattle.po_core.specs.Cutting.{KeepsVolumes}
use Rattle.po_core.proofs.Ends.{ends_stay, ended_on}

module _ {S V : Type 0} (m : Meaning S V) where
  -- the first ends stay the same through any events
  ends_stay_all : (limit : Option ℕ) (p : ObjectState S V) (events : List (Event V)) (k : ℕ) → k ≤ length p.ended → take k p.ended ≡ take k (replay m limit p events).ended
  ends_stay_all limit p [] k h = refl
  ends_stay_all limit p (e ∷ events) k h =
      let q = step m limit p e in
      ends_stay m limit p q e k refl h ∙ ends_stay_all limit q events k (ended_on m limit p q e k refl h)

  -- the state at the base, if the setup and the base stay and events lead to the new state
  volumes_at : (old new : View S V) (events : List (Event V)) → new.setup ≡ old.setup → new.base ≡ old.base → old.base.ended ≤ length old.state.ended → new.state ≡ replay m old.setup.max_queue old.state events → KeepsVolumes m old new
  volumes_at old new events setup base based state = λ volumes are.
      let limit = old.setup.max_queue in
      let ends : take old.base.ended old.state.ended ≡ take old.base.ended new.state.ended =
      ends_stay_all limit old.state events old.base.ended based ∙ ap (λ s. take old.base.ended s.ended) (sym state) in
      let there : base_state old ≡ base_state new =
      ap (state_with old.base) ends ∙ ap (λ b. state_at b new.state.ended) (sym base) in record {
        run_on = rw (setup, base) are.run_on;
        leads = record {
          legal = rw setup are.leads.legal;
          to_there = rw setup (are.leads.to_there ∙ there);
          public = rw setup are.leads.public;
        };
        arrivals = rw (setup, base) are.arrivals;
        ran = rw base are.ran;
        last = rw base are.last;
      }

  -- after a command's own event
  pub volumes_begun : (old new : View S V) (own : Event V) → old.base.ended ≤ length old.state.ended → Begins m old new own → KeepsVolumes m old new
  volumes_begun old new own based begins =
      volumes_at old new (own ∷ []) begins.setup begins.base based begins.happens.state

  -- after its own event and the inner events that follow
  pub volumes_settled : (old begun new : View S V) (own : Event V) → old.base.ended ≤ length old.state.ended → Begins m old begun own → Settles m begun new → IsSameCommand begun new → KeepsVolumes m old new
  volumes_settled old begun new own based begins settles same =
      volumes_at old new (own ∷ settles.inner) (same.setup ∙ begins.setup) (same.base ∙ begins.base) based
      (settles.state ∙ rw (begins.setup, begins.happens.state) refl)
