-- What a history makes true of what contracts see.
use Rattle.std.proofs.Common.{◌≡◌, ◌∙◌, [], map, subst, ap, sym}
use Rattle.std.proofs.lemmas.List.Elements.{All-nil}
use Rattle.po_unit.specs.Meaning.{Meaning, IsLawful}
use Rattle.po_core.specs.View.{View, base_state}
use Rattle.po_core.specs.Base.{arrived, state_at}
use Rattle.po_core.specs.Public.{NamesPublic}
use Rattle.po_core.specs.Cutting.{AreVolumes, arrival_in}
use Rattle.po_engine.specs.Arrival.{Rises}
use Rattle.po_core.specs.Arrival.{arrival}
use Rattle.po_core.specs.History.{IsHistory}
use Rattle.po_unit.specs.Numbering.{entry_count}
use Rattle.po_core.specs.Headline.{IsSound}
use Rattle.po_core.proofs.Wells.{well, well_base}
use Rattle.po_core.proofs.Orders.{ordered_all}
use Rattle.po_core.proofs.CutLemmas.{counted_so_far, base_begun}
use Rattle.po_core.proofs.Falls.{emptied, IsEmptied}

pub sound : {S V : Type 0} (m : Meaning S V) → IsLawful m → (s : View S V) → IsHistory m s.setup s.base s.state s.events → IsSound m s
sound m law s h =
    let w = well m law s.setup s.base s.state s.events h in record {
      replays = record { legal = h.legal; leads = h.leads; public = h.public };
      order = subst (λ p. Rises (arrival m s) p.waiting) h.leads ((ordered_all m law s.setup.max_queue (entry_count s.setup.shape) s.setup.first_number (arrived s.base) s.base.place (base_state s) s.events h.legal (well_base m law s.setup s.base s.state.ended h.base) (record { rises = h.base.rises; before = h.base.before })).rises);
      placed = w.placed;
      low = w.low;
      based = h.base.ended;
      begun = base_begun m s h;
      opened = h.base.opened;
      counted = counted_so_far m s h;
      emptied = subst IsEmptied h.leads (emptied m law s.setup.max_queue (base_state s) s.events h.legal h.base.emptied);
      shaped = w.range.entries;
    }

-- no volume is before a base at the place of the first event
pub uncut : {S V : Type 0} (m : Meaning S V) (view : View S V) → IsSound m view → view.base.place ≡ view.setup.first_place → AreVolumes m view []
uncut m view sound at =
    let opened = sound.opened at in
    record {
      run_on = sym at;
      leads = record {
        legal = tt;
        to_there = sym (ap (λ b. state_at b view.state.ended) opened);
        public = All-nil (NamesPublic view.setup.shape);
      };
      arrivals = ap (λ b. b.arrivals) opened ∙ sym (ap (λ b. map (λ x. arrival_in m view.setup [] x.number) b.waiting) opened);
      ran = ap (λ b. b.ran) opened;
      last = ap (λ b. b.last) opened;
    }
