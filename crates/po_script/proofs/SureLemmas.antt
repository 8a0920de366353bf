-- After any commands the object has the facts of the unit that they began, and refuses what it is sure to refuse.
use Rattle.std.proofs.Common.{◌≡◌, ℕ, zero, suc, List, [], ◌∷◌, Option, Some, None, refl, ap, subst, inl, inr}
use Rattle.po_core.specs.View.{View}
use Rattle.po_core.specs.declared.refusal.Refusal.{Refusal}
use Rattle.po_language.specs.declared.command.Beginning.{Beginning}
use Rattle.po_language.specs.declared.command.Command.{Command}
use Rattle.po_language.specs.declared.command.Command.TheVariants.{Begin, Operate}
use Rattle.po_language.specs.declared.command.Operation.{Operation}
use Rattle.po_language.specs.declared.command.UnitChoice.{UnitChoice}
use Rattle.po_script.specs.AnySession.{begun_by, state_by}
use Rattle.po_script.specs.Script.{begun_after}
use Rattle.po_script.specs.Facts.{Facts, AreFacts, facts_at, sure_refusal}
use Rattle.po_script.specs.Lines.{refused_line}
use Rattle.po_script.specs.Session.{SessionState, opening_state, after}
use Rattle.po_script.specs.SureRefusals.{RefusesBehind}
use Rattle.po_script.specs.Units.{ScriptUnits, Object, AreLawful, refusal_on, after_on, lines_on, made_at}
use Rattle.po_script.specs.Units.ScriptUnits.{last, before}
use Rattle.po_script.proofs.FactLemmas.{refuses_surely}
use Rattle.po_script.proofs.KeptFacts.{kept_facts}

-- The facts are those of this object, whichever unit it is of.
abbrev AreFactsOn : (units : ScriptUnits) → Facts → Object units → Type 0
AreFactsOn (last S unit m) facts view = AreFacts m facts view
AreFactsOn (before S unit m units) facts (inl view) = AreFacts m facts view
AreFactsOn (before S unit m units) facts (inr object) = AreFactsOn units facts object

facts_made : (units : ScriptUnits) (n : ℕ) (beginning : Beginning) → AreFactsOn units (facts_at units n beginning.unit.size) (made_at units n beginning)
facts_made (last S unit m) n beginning = record { shape = refl; procedures = refl; functions = refl }
facts_made (before S unit m units) zero beginning = record { shape = refl; procedures = refl; functions = refl }
facts_made (before S unit m units) (suc n) beginning = facts_made units n beginning

facts_kept : (units : ScriptUnits) → AreLawful units → (facts : Facts) (object : Object units) (operation : Operation) → AreFactsOn units facts object → AreFactsOn units facts (after_on units object operation)
facts_kept (last S unit m) law facts view operation are = kept_facts m law facts view operation are
facts_kept (before S unit m units) law facts (inl view) operation are = kept_facts m law.0 facts view operation are
facts_kept (before S unit m units) law facts (inr object) operation are = facts_kept units law.1 facts object operation are

-- What an object does if it refuses the operation.
abbrev RefusesOn : (units : ScriptUnits) → Object units → Operation → Refusal → Type 0
RefusesOn units object operation refusal =
    (refusal_on units object operation ≡ Some refusal)
    × (after_on units object operation ≡ object)
    × (lines_on units object operation ≡ refused_line refusal)

refused_on : (units : ScriptUnits) (facts : Facts) (object : Object units) (operation : Operation) (refusal : Refusal) → AreFactsOn units facts object → sure_refusal facts operation ≡ Some refusal → RefusesOn units object operation refusal
refused_on (last S unit m) facts view operation refusal are sure =
    let r = refuses_surely m facts operation view are refusal sure in (r.0, r.1, r.2 unit.names.entries)
refused_on (before S unit m units) facts (inl view) operation refusal are sure =
    let r = refuses_surely m facts operation view are refusal sure in (r.0, ap (λ (v : View S ℕ). let o : Object (before S unit m units) = inl v in o) r.1, r.2 unit.names.entries)
refused_on (before S unit m units) facts (inr object) operation refusal are sure =
    let r = refused_on units facts object operation refusal are sure in (r.0, ap (λ (v : Object units). let o : Object (before S unit m units) = inr v in o) r.1, r.2)

module _ (units : ScriptUnits) (law : AreLawful units) where
  -- if a unit was begun, the session has an object with its facts
  abbrev HasFacts : Option UnitChoice → SessionState units → Type 0
  HasFacts None s = Unit {0}
  HasFacts (Some unit) s = (object : Object units) × (s ≡ Some object) × AreFactsOn units (facts_at units unit.number unit.size) object

  facts_operated : (begun : Option UnitChoice) (s : SessionState units) (operation : Operation) → HasFacts begun s → HasFacts begun (after units s (Operate operation))
  unfolding after
  facts_operated None s operation has = tt
  facts_operated (Some unit) None operation has = absurd cc
  facts_operated (Some unit) (Some object) operation has =
      let is : has.0 ≡ object = cc in
      (after_on units object operation, refl, facts_kept units law _ object operation (subst (λ o. AreFactsOn units (facts_at units unit.number unit.size) o) is has.2))

  facts_after : (begun : Option UnitChoice) (s : SessionState units) (command : Command) → HasFacts begun s → HasFacts (begun_after begun command) (after units s command)
  unfolding after
  facts_after begun s (Begin beginning) has = (made_at units beginning.unit.number beginning, refl, facts_made units beginning.unit.number beginning)
  facts_after begun s (Operate operation) has = facts_operated begun s operation has

  facts_behind : (begun : Option UnitChoice) (s : SessionState units) (commands : List Command) → HasFacts begun s → HasFacts (begun_by begun commands) (state_by (after units) s commands)
  facts_behind begun s [] has = has
  facts_behind begun s (c ∷ cs) has = facts_behind (begun_after begun c) (after units s c) cs (facts_after begun s c has)

  pub refuses_behind : (commands : List Command) → RefusesBehind units commands
  refuses_behind commands = λ unit begun operation refusal sure.
      let has = subst (λ (b : Option UnitChoice). HasFacts b (state_by (after units) (opening_state units) commands)) begun (facts_behind None (opening_state units) commands tt) in
      let r = refused_on units (facts_at units unit.number unit.size) has.0 operation refusal has.2 sure in
      record { object = has.0; present = has.1; refused = r.0; stays = r.1; answered = r.2 }
