-- How a history begins, and how it goes on by one event.
use Rattle.std.proofs.Common.{◌≡◌, ℕ, ◌<◌, List, [], ◌∷◌, ◌++◌, Ok, false, refl, subst, ap, arith}
use Rattle.std.proofs.lemmas.List.Elements.{All-push, All-nil}
use Rattle.std.proofs.lemmas.Bool.Decides.{nat_tests}
use Rattle.po_unit.specs.Meaning.{Meaning}
use Rattle.po_history.specs.declared.event.Event.{Event}
use Rattle.po_engine.specs.ObjectState.{ObjectState, opening_state, barrier_in, IsAtRest}
use Rattle.po_engine.specs.WaitingCalls.{is_due}
use Rattle.po_engine.specs.Step.{replay, IsLegal, Needs, step}
use Rattle.po_core.specs.Base.{Base, opening_base, state_with, state_at}
use Rattle.po_core.specs.Setup.{Setup}
use Rattle.po_core.specs.View.{IsInOnePlace}
use Rattle.po_unit.specs.Numbering.{entry_count}
use Rattle.po_core.specs.Public.{NamesPublic}
use Rattle.po_core.specs.History.{IsHistory}
use Rattle.po_core.proofs.Runs.{kept_on}
use Rattle.po_core.proofs.Ends.{ended_on, ends_stay}

module _ {S V : Type 0} (m : Meaning S V) (setup : Setup S) where
  placed_opening : (u : S) → IsInOnePlace {S = S} {V = V} setup.first_number (opening_state u setup.first_number)
  placed_opening u = λ k. grind (arith, nat_tests)

  pub history_opens : m.entries setup.opening ≡ entry_count setup.shape → IsHistory m setup (opening_base setup.opening setup.first_number setup.first_place) (opening_state setup.opening setup.first_number) []
  history_opens shaped = record {
    base = record {
      shaped = shaped;
      low = omega arith;
      placed = placed_opening setup.opening;
      range = All-nil (λ x. x.entry < m.entries setup.opening);
      rises = tt;
      before = All-nil (λ x. 0 < setup.first_place);
      emptied = λ _. refl;
      ended = omega arith;
      counted = omega arith;
      opened = λ _. refl;
    };
    legal = tt;
    leads = refl;
    public = All-nil (NamesPublic setup.shape);
  }

  pub history_goes_on : (b : Base S V) (p r : ObjectState S V) (es : List (Event V)) (e : Event V) → IsHistory m setup b p es → Needs m p e → NamesPublic setup.shape e → r ≡ step m setup.max_queue p e → IsHistory m setup b r (es ++ e ∷ [])
  history_goes_on b p r es e h need named is =
      let limit = setup.max_queue in
      let first = setup.first_number in
      let same : state_at b p.ended ≡ state_at b r.ended = ap (state_with b) (ends_stay m limit p r e b.ended is h.base.ended) in
      let k = kept_on m limit (state_at b p.ended) p r es e h.leads h.legal need is in record {
        base = record {
          shaped = h.base.shaped;
          low = h.base.low;
          placed = subst (IsInOnePlace first) same h.base.placed;
          range = h.base.range;
          rises = h.base.rises;
          before = h.base.before;
          emptied = h.base.emptied;
          ended = ended_on m limit p r e b.ended is h.base.ended;
          counted = h.base.counted;
          opened = h.base.opened;
        };
        legal = subst (λ q. IsLegal m limit q (es ++ e ∷ [])) same k.legal;
        leads = subst (λ q. replay m limit q (es ++ e ∷ []) ≡ r) same k.leads;
        public = All-push (NamesPublic setup.shape) es e h.public named;
      }

-- a newly made object is at rest
pub rest_opening : {S V : Type 0} (m : Meaning S V) (u : S) (first : ℕ) → IsAtRest {V = V} m (opening_state u first)
rest_opening {V} m u first = record { quiet = All-nil (λ x. barrier_in {V = V} m (opening_state u first) x.entry ≡ Ok false); none_due = All-nil (λ x. is_due 0 x ≡ false) }
