-- Inner events, one step after another.
use Rattle.std.proofs.Common.{ℕ, ◌≡◌, ◌<◌, arith, length-append, List, [], ◌∷◌, ◌++◌, refl, ap, sym, ◌∙◌, Option, Some, None, true, false, MatchOption, append_assoc, append-nil}
use Rattle.po_unit.specs.Meaning.{Meaning}
use Rattle.po_history.specs.declared.event.Event.{Event}
use Rattle.po_engine.specs.ObjectState.{ObjectState}
use Rattle.po_engine.specs.Step.{replay, step}
use Rattle.po_core.specs.View.{View, last_served}
use Rattle.po_core.specs.Progress.{Settles, IsSameCommand, Happens}
use Rattle.po_engine.specs.Pick.{pick, ArePicks, served_last, last_from, weight}
use Rattle.po_queues.specs.declared.order.Order.{Order}
use Rattle.po_core.proofs.Runs.{replay-append}

pub last-append : {V : Type 0} (last : Option ℕ) (es fs : List (Event V)) → last_from last (es ++ fs) ≡ last_from (last_from last es) fs
last-append last [] fs = refl
last-append last (e ∷ es) fs = last-append (served_last last e) es fs

pub last-push : {V : Type 0} (l last : Option ℕ) (es : List (Event V)) (e : Event V) → last ≡ last_from l es → served_last last e ≡ last_from l (es ++ e ∷ [])
last-push l last es e h = ap (λ k. served_last k e) h ∙ sym (last-append l es (e ∷ []))

module _ {S V : Type 0} (m : Meaning S V) where
  pub picks_on : (limit : Option ℕ) (order : Order) (last : Option ℕ) (p : ObjectState S V) (es : List (Event V)) (e : Event V) → ArePicks m limit order last p es → pick m order (last_from last es) (replay m limit p es) ≡ Some e → ArePicks m limit order last p (es ++ e ∷ [])
  picks_on limit order last p [] e h k = (k, tt)
  picks_on limit order last p (x ∷ es) e h k = (h.0, picks_on limit order (served_last last x) (step m limit p x) es e h.1 k)

  pub settles_none : (s : View S V) → Settles m s s
  settles_none s = record { inner = []; events = sym (append-nil s.events); picks = tt; bounded = omega arith; state = refl }

  picked_there : (s t : View S V) (e : Event V) (h : Settles m s t) → pick m t.setup.order (last_served t) t.state ≡ Some e → IsSameCommand s t → pick m s.setup.order (last_from (last_served s) h.inner) (replay m s.setup.max_queue s.state h.inner) ≡ Some e
  picked_there s t e h k start =
      let there : last_served t ≡ last_from (last_served s) h.inner = ap (λ b. last_from b.last t.events) start.base ∙ (ap (last_from s.base.last) h.events ∙ last-append s.base.last s.events h.inner) in
      rw (← h.state, ← there, ← ap (λ k. k.order) start.setup) k

  pub settles_on : (s t u : View S V) (e : Event V) → Settles m s t → pick m t.setup.order (last_served t) t.state ≡ Some e → IsSameCommand s t → Happens m t u e → weight m u.state < weight m t.state → Settles m s u
  settles_on s t u e h k start now less = record {
    inner = h.inner ++ e ∷ [];
    events = now.events ∙ (ap (λ l. l ++ e ∷ []) h.events ∙ append_assoc s.events h.inner (e ∷ []));
    picks = picks_on s.setup.max_queue s.setup.order (last_served s) s.state h.inner e h.picks (picked_there s t e h k start);
    bounded = omega (arith, less, h.bounded, length-append h.inner (e ∷ []));
    state = now.state ∙ (ap (λ k. step m k.max_queue t.state e) start.setup ∙ (ap (λ p. step m s.setup.max_queue p e) h.state ∙ sym (replay-append m s.setup.max_queue s.state h.inner (e ∷ []))));
  }

  pub same_on : (s t u : View S V) → IsSameCommand s t → IsSameCommand t u → IsSameCommand s u
  same_on s t u h k = record { setup = k.setup ∙ h.setup; base = k.base ∙ h.base; ended_before = k.ended_before ∙ h.ended_before }

  -- the inner events so far, given what a step says
  pub settles_by : (X : Type 0) (s t u : View S V) (o : Option (Event V)) → pick m t.setup.order (last_served t) t.state ≡ o → IsSameCommand s t → MatchOption o ((true ≡ false) × X) (λ e. (true ≡ true) × Happens m t u e) → weight m u.state < weight m t.state → Settles m s t → Settles m s u
  settles_by X s t u None k start now less h = let bad = now.0 in cc
  settles_by X s t u (Some e) k start now less h = settles_on s t u e h k start now.1 less
