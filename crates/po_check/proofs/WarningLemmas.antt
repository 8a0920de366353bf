-- A line with a warning of a refusal is refused by a run that reaches it.
use Rattle.std.proofs.Common.{◌≡◌, ℕ, zero, suc, ◌+◌, ◌-◌, Bool, true, false, cond, ltb, List, [], ◌∷◌, ◌++◌, length, take, Option, Some, None, Result, Ok, Err, refl, sym, ap, subst, ◌∙◌, arith, append_assoc}
use Rattle.std.specs.Prelude.{All, drop}
use Rattle.std.proofs.lemmas.List.{append-nil, take-append-drop}
use Rattle.std.proofs.lemmas.List.Elements.{All-nil, All-cons, All-append, All-weaker}
use Rattle.po_language.specs.declared.command.UnitChoice.{UnitChoice}
use Rattle.po_language.specs.declared.command.Beginning.{Beginning}
use Rattle.po_language.specs.declared.command.Command.{Command}
use Rattle.po_language.specs.declared.command.Command.TheVariants.{Begin, Operate}
use Rattle.po_language.specs.declared.command.Operation.{Operation}
use Rattle.po_language.specs.declared.command.FaultKind.{FaultKind}
use Rattle.po_core.specs.declared.refusal.Refusal.{Refusal}
use Rattle.po_script.specs.AnySession.{begun_by}
use Rattle.po_script.specs.Script.{Cut, cut, Reading, reading, with_line, prepend, line_of, begun_after, whole_lines, past_limit, script_within}
use Rattle.po_script.specs.Ends.{state_after, answers}
use Rattle.po_script.specs.Lines.{refused_line}
use Rattle.po_script.specs.Session.{SessionState, opening_state, after, answer}
use Rattle.po_script.specs.SureRefusals.{Refuses, RefusesBehind}
use Rattle.po_script.specs.Units.{ScriptUnits, Object, listed}
use Rattle.po_script.proofs.ReadingLemmas.{reading_front, begun_by-push, text_by-append}
use Rattle.po_check.specs.declared.known.Known.{Known}
use Rattle.po_check.specs.declared.known.Known.TheVariants.{Nothing, Begun}
use Rattle.po_check.specs.declared.claim.Claim.{Claim}
use Rattle.po_check.specs.declared.claim.Claim.TheVariants.{HasFault, IsRefused}
use Rattle.po_check.specs.Claims.{says, known_after, refusal_at, warning, claims_at, claims_from, whole_claims, limit_claim, claims_within}
use Rattle.po_check.specs.Warnings.{lines_within, IsRefusedInRun, WarnsOfRefusals}
use Rattle.po_check.proofs.FirstFault.{known_of, says_same}

some_none : {A : Type 0} (x : A) → Some x ≡ None → ⊥
some_none x e = cc

-- the line of a claim
abbrev line_of_claim : Claim → ℕ
line_of_claim (HasFault n kind known) = n
line_of_claim (IsRefused n refusal known) = n

module _ (units : ScriptUnits) where
  -- the claim is about one of the lines from number n on
  abbrev IsFrom : ℕ → Claim → Type 0
  IsFrom n claim = (i : ℕ) × (line_of_claim claim ≡ n + i)

  from_next : (n : ℕ) (claim : Claim) → IsFrom (n + 1) claim → IsFrom n claim
  from_next n claim is = (is.0 + 1, omega (arith, is.1))

  warning_from : (n : ℕ) (known : Known) (refusal : Option Refusal) → All (IsFrom n) (warning n known refusal)
  warning_from n known None = All-nil (IsFrom n)
  warning_from n known (Some refusal) = All-cons (IsFrom n) (IsRefused n refusal known) [] (zero, omega arith) (All-nil (IsFrom n))

  at_from : (known : Known) (n : ℕ) (said : Result (Option Command) FaultKind) → All (IsFrom n) (claims_at units known n said)
  at_from known n (Err kind) = All-cons (IsFrom n) (HasFault n kind known) [] (zero, omega arith) (All-nil (IsFrom n))
  at_from known n (Ok command) = warning_from n known (refusal_at units known command)

  -- what is said about lines from number n on is about such lines
  claims_are_from : (known : Known) (n : ℕ) (ls : List (List ℕ)) → All (IsFrom n) (claims_from units known n ls)
  claims_are_from known n [] = All-nil (IsFrom n)
  claims_are_from known n (l ∷ ls) =
      let said = says (listed units) known l in
      All-append (IsFrom n) (claims_at units known n said) (claims_from units (known_after known said) (n + 1) ls)
      (at_from known n said)
      (All-weaker (IsFrom (n + 1)) (IsFrom n) (λ claim is. from_next n claim is) (claims_from units (known_after known said) (n + 1) ls) (claims_are_from (known_after known said) (n + 1) ls))

  -- the commands so far were these, and the lines from number n on follow
  module _ (behind : (commands : List Command) → RefusesBehind units commands) where
    -- line i of these is refused after the commands so far and those of the lines before it
    pub record IsRefusedFrom (so_far : List Command) (begun : Option UnitChoice) (n : ℕ) (ls : List (List ℕ)) (i : ℕ) (refusal : Refusal) : Type 0 where
      pub operation : Operation
      pub line : (reading (listed units) begun n (take (suc i) ls)).commands ≡ (reading (listed units) begun n (take i ls)).commands ++ Operate operation ∷ []
      pub refused : Refuses units (state_after units (opening_state units) (so_far ++ (reading (listed units) begun n (take i ls)).commands)) operation refusal

    abbrev HoldsFrom : List Command → Option UnitChoice → ℕ → List (List ℕ) → Claim → Type 0
    HoldsFrom so_far begun n ls (HasFault k kind known) = Unit {0}
    HoldsFrom so_far begun n ls (IsRefused k refusal known) =
        (i : ℕ) × (k ≡ n + i) × ((reading (listed units) begun n (take i ls)).fault ≡ None → IsRefusedFrom so_far begun n ls i refusal)

    -- after a line with a fault, nothing is reached
    after_fault : (so_far : List Command) (begun : Option UnitChoice) (n : ℕ) (l : List ℕ) (ls : List (List ℕ)) (kind : FaultKind) (claim : Claim) → line_of (listed units) begun l ≡ Err kind → IsFrom (n + 1) claim → HoldsFrom so_far begun n (l ∷ ls) claim
    after_fault so_far begun n l ls kind (HasFault k other known) is from = tt
    after_fault so_far begun n l ls kind (IsRefused k refusal known) is from =
        (suc from.0, omega (arith, from.1), λ reached. absurd (some_none {A = ℕ × FaultKind} (n, kind) (ap (λ said. (with_line n begun said (λ later. reading (listed units) later (n + 1) (take from.0 ls))).fault) (sym is) ∙ reached)))

    after_nothing : (so_far : List Command) (begun : Option UnitChoice) (n : ℕ) (l : List ℕ) (ls : List (List ℕ)) (claim : Claim) → line_of (listed units) begun l ≡ Ok None → HoldsFrom so_far begun (n + 1) ls claim → HoldsFrom so_far begun n (l ∷ ls) claim
    after_nothing so_far begun n l ls (HasFault k kind known) is holds = tt
    after_nothing so_far begun n l ls (IsRefused k refusal known) is holds =
        let skips : (i : ℕ) → reading (listed units) begun n (l ∷ take i ls) ≡ reading (listed units) begun (n + 1) (take i ls) = λ i. ap (λ said. with_line n begun said (λ later. reading (listed units) later (n + 1) (take i ls))) is in (
          suc holds.0,
          omega (arith, holds.1),
          λ reached.
              let r = holds.2 (ap (λ (q : Reading). q.fault) (sym (skips holds.0)) ∙ reached) in
              record {
                operation = r.operation;
                line = ap (λ (q : Reading). q.commands) (skips (suc holds.0)) ∙ r.line ∙ ap (λ (q : Reading). q.commands ++ Operate r.operation ∷ []) (sym (skips holds.0));
                refused = subst (λ (q : Reading). Refuses units (state_after units (opening_state units) (so_far ++ q.commands)) r.operation refusal) (sym (skips holds.0)) r.refused;
              },
        )

    after_command : (so_far : List Command) (begun : Option UnitChoice) (n : ℕ) (l : List ℕ) (ls : List (List ℕ)) (c : Command) (claim : Claim) → line_of (listed units) begun l ≡ Ok (Some c) → HoldsFrom (so_far ++ c ∷ []) (begun_after begun c) (n + 1) ls claim → HoldsFrom so_far begun n (l ∷ ls) claim
    after_command so_far begun n l ls c (HasFault k kind known) is holds = tt
    after_command so_far begun n l ls c (IsRefused k refusal known) is holds =
        let goes : (i : ℕ) → reading (listed units) begun n (l ∷ take i ls) ≡ prepend c (reading (listed units) (begun_after begun c) (n + 1) (take i ls)) = λ i. ap (λ said. with_line n begun said (λ later. reading (listed units) later (n + 1) (take i ls))) is in (
          suc holds.0,
          omega (arith, holds.1),
          λ reached.
              let r = holds.2 (ap (λ (q : Reading). q.fault) (sym (goes holds.0)) ∙ reached) in
              record {
                operation = r.operation;
                line = ap (λ (q : Reading). q.commands) (goes (suc holds.0)) ∙ ap (λ cs. c ∷ cs) r.line ∙ ap (λ (q : Reading). q.commands ++ Operate r.operation ∷ []) (sym (goes holds.0));
                refused = subst (λ (q : Reading). Refuses units (state_after units (opening_state units) (so_far ++ q.commands)) r.operation refusal) (sym (goes holds.0))
                    (subst (λ cs. Refuses units (state_after units (opening_state units) cs) r.operation refusal) (append_assoc so_far (c ∷ []) (reading (listed units) (begun_after begun c) (n + 1) (take holds.0 ls)).commands) r.refused);
              },
        )

    -- the warning of a line's own operation
    own_warning : (so_far : List Command) (begun : Option UnitChoice) (n : ℕ) (l : List ℕ) (ls : List (List ℕ)) (operation : Operation) (refusal : Option Refusal) → begun_by None so_far ≡ begun → line_of (listed units) begun l ≡ Ok (Some (Operate operation)) → refusal_at units (known_of begun) (Some (Operate operation)) ≡ refusal → All (HoldsFrom so_far begun n (l ∷ ls)) (warning n (known_of begun) refusal)
    own_warning so_far begun n l ls operation None from is sure = All-nil (HoldsFrom so_far begun n (l ∷ ls))
    own_warning so_far None n l ls operation (Some refusal) from is sure = absurd cc
    own_warning so_far (Some unit) n l ls operation (Some refusal) from is sure =
        All-cons (HoldsFrom so_far (Some unit) n (l ∷ ls)) (IsRefused n refusal (Begun unit)) [] (
          zero,
          omega arith,
          λ reached. record {
            operation = operation;
            line = ap (λ said. (with_line n (Some unit) said (λ later. reading (listed units) later (n + 1) [])).commands) is;
            refused = subst (λ cs. Refuses units (state_after units (opening_state units) cs) operation refusal) (sym (append-nil so_far)) (behind so_far unit from operation refusal sure);
          },
        )
        (All-nil (HoldsFrom so_far (Some unit) n (l ∷ ls)))

    silent_nothing : (begun : Option UnitChoice) → refusal_at units (known_of begun) None ≡ None
    silent_nothing None = refl
    silent_nothing (Some unit) = refl

    silent_begin : (begun : Option UnitChoice) (beginning : Beginning) → refusal_at units (known_of begun) (Some (Begin beginning)) ≡ None
    silent_begin None beginning = refl
    silent_begin (Some unit) beginning = refl

    line_holds : (so_far : List Command) (begun : Option UnitChoice) (n : ℕ) (l : List ℕ) (ls : List (List ℕ)) (said : Result (Option Command) FaultKind) → begun_by None so_far ≡ begun → line_of (listed units) begun l ≡ said → ((next : List Command) (later : Option UnitChoice) → begun_by None next ≡ later → All (HoldsFrom next later (n + 1) ls) (claims_from units (known_of later) (n + 1) ls)) → All (HoldsFrom so_far begun n (l ∷ ls)) (claims_at units (known_of begun) n said ++ claims_from units (known_after (known_of begun) said) (n + 1) ls)
    line_holds so_far begun n l ls (Err kind) from is step =
        let known = known_after (known_of begun) (Err kind) in
        All-cons (HoldsFrom so_far begun n (l ∷ ls)) (HasFault n kind (known_of begun)) (claims_from units known (n + 1) ls) tt
        (All-weaker (IsFrom (n + 1)) (HoldsFrom so_far begun n (l ∷ ls)) (λ claim is_from. after_fault so_far begun n l ls kind claim is is_from) (claims_from units known (n + 1) ls) (claims_are_from known (n + 1) ls))
    line_holds so_far begun n l ls (Ok None) from is step =
        subst (λ refusal. All (HoldsFrom so_far begun n (l ∷ ls)) (warning n (known_of begun) refusal ++ claims_from units (known_of begun) (n + 1) ls)) (sym (silent_nothing begun))
        (All-weaker (HoldsFrom so_far begun (n + 1) ls) (HoldsFrom so_far begun n (l ∷ ls)) (λ claim holds. after_nothing so_far begun n l ls claim is holds) (claims_from units (known_of begun) (n + 1) ls) (step so_far begun from))
    line_holds so_far begun n l ls (Ok (Some (Begin beginning))) from is step =
        subst (λ refusal. All (HoldsFrom so_far begun n (l ∷ ls)) (warning n (known_of begun) refusal ++ claims_from units (known_of (Some beginning.unit)) (n + 1) ls)) (sym (silent_begin begun beginning))
        (All-weaker (HoldsFrom (so_far ++ Begin beginning ∷ []) (Some beginning.unit) (n + 1) ls) (HoldsFrom so_far begun n (l ∷ ls)) (λ claim holds. after_command so_far begun n l ls (Begin beginning) claim is holds) (claims_from units (known_of (Some beginning.unit)) (n + 1) ls)
        (step (so_far ++ Begin beginning ∷ []) (Some beginning.unit) (begun_by-push None so_far (Begin beginning))))
    line_holds so_far begun n l ls (Ok (Some (Operate operation))) from is step =
        let next : begun_by None (so_far ++ Operate operation ∷ []) ≡ begun = begun_by-push None so_far (Operate operation) ∙ from in
        All-append (HoldsFrom so_far begun n (l ∷ ls)) (warning n (known_of begun) (refusal_at units (known_of begun) (Some (Operate operation)))) (claims_from units (known_of begun) (n + 1) ls)
        (own_warning so_far begun n l ls operation (refusal_at units (known_of begun) (Some (Operate operation))) from is refl)
        (All-weaker (HoldsFrom (so_far ++ Operate operation ∷ []) begun (n + 1) ls) (HoldsFrom so_far begun n (l ∷ ls)) (λ claim holds. after_command so_far begun n l ls (Operate operation) claim is holds) (claims_from units (known_of begun) (n + 1) ls)
        (step (so_far ++ Operate operation ∷ []) begun next))

    lines_hold : (so_far : List Command) (begun : Option UnitChoice) (n : ℕ) (ls : List (List ℕ)) → begun_by None so_far ≡ begun → All (HoldsFrom so_far begun n ls) (claims_from units (known_of begun) n ls)
    lines_hold so_far begun n [] from = All-nil (HoldsFrom so_far begun n [])
    lines_hold so_far begun n (l ∷ ls) from =
        subst (λ said. All (HoldsFrom so_far begun n (l ∷ ls)) (claims_at units (known_of begun) n said ++ claims_from units (known_after (known_of begun) said) (n + 1) ls)) (sym (says_same units begun l))
        (line_holds so_far begun n l ls (line_of (listed units) begun l) from refl (λ next later is. lines_hold next later (n + 1) ls is))

    -- what is said about a script is said about the lines that a run reads
    claims_hold : (most : ℕ) (bytes : List ℕ) → All (HoldsFrom [] None 1 (lines_within most bytes)) (claims_within units most bytes)
    claims_hold most bytes = go (ltb most (length bytes))
      where
        go : (past : Bool) → All (HoldsFrom [] None 1 (cond past (cut (take most bytes)).full ((cut bytes).full ++ (cut bytes).rest ∷ []))) (cond past (whole_claims units (take most bytes) ++ limit_claim units (cut (take most bytes)) ∷ []) (claims_from units Nothing 1 ((cut bytes).full ++ (cut bytes).rest ∷ [])))
        go true =
            let full = (cut (take most bytes)).full in
            let last = limit_claim units (cut (take most bytes)) in
            All-append (HoldsFrom [] None 1 full) (whole_claims units (take most bytes)) (last ∷ []) (lines_hold [] None 1 full refl)
            (All-cons (HoldsFrom [] None 1 full) last [] tt (All-nil (HoldsFrom [] None 1 full)))
        go false = lines_hold [] None 1 ((cut bytes).full ++ (cut bytes).rest ∷ []) refl

    limit_commands : (commands : List Command) (fault : Option (ℕ × FaultKind)) (c : Cut) → (past_limit commands fault c).commands ≡ commands
    limit_commands commands None c = refl
    limit_commands commands (Some fault) c = refl

    -- the commands of a script are those of the lines that a run reads
    script_commands : (most : ℕ) (bytes : List ℕ) → (script_within (listed units) most bytes).commands ≡ (reading (listed units) None 1 (lines_within most bytes)).commands
    script_commands most bytes = go (ltb most (length bytes))
      where
        go : (past : Bool) → (cond past (past_limit (whole_lines (listed units) (take most bytes)).commands (whole_lines (listed units) (take most bytes)).fault (cut (take most bytes))) (reading (listed units) None 1 ((cut bytes).full ++ (cut bytes).rest ∷ []))).commands ≡ (reading (listed units) None 1 (cond past (cut (take most bytes)).full ((cut bytes).full ++ (cut bytes).rest ∷ []))).commands
        go true = limit_commands _ (whole_lines (listed units) (take most bytes)).fault (cut (take most bytes))
        go false = refl

    refuses_answer : (s : SessionState units) (operation : Operation) (refusal : Refusal) → Refuses units s operation refusal → answer units s (Operate operation) ≡ refused_line refusal
    unfolding answer
    refuses_answer s operation refusal r = ap (λ (t : SessionState units). answer units t (Operate operation)) r.present ∙ r.answered

    refuses_after : (s : SessionState units) (operation : Operation) (refusal : Refusal) → Refuses units s operation refusal → after units s (Operate operation) ≡ s
    unfolding after
    refuses_after s operation refusal r = ap (λ (t : SessionState units). after units t (Operate operation)) r.present ∙ ap (λ (o : Object units). Some o) r.stays ∙ sym r.present

    -- what is written if an operation is refused
    written_around : (s : SessionState units) (before later : List Command) (operation : Operation) (refusal : Refusal) → Refuses units (state_after units s before) operation refusal → answers units s (before ++ Operate operation ∷ later) ≡ answers units s before ++ refused_line refusal ++ answers units (state_after units s before) later
    written_around s before later operation refusal r =
        text_by-append (after units) (answer units) s before (Operate operation ∷ later)
        ∙ ap (λ text. answers units s before ++ (text ++ answers units (after units (state_after units s before) (Operate operation)) later)) (refuses_answer _ operation refusal r)
        ∙ ap (λ (t : SessionState units). answers units s before ++ (refused_line refusal ++ answers units t later)) (refuses_after _ operation refusal r)
        ∙ sym (append_assoc (answers units s before) (refused_line refusal) _)

    in_run : (most : ℕ) (bytes : List ℕ) (i : ℕ) (refusal : Refusal) → IsRefusedFrom [] None 1 (lines_within most bytes) i refusal → IsRefusedInRun units most bytes (suc i) refusal
    in_run most bytes i refusal r =
        let ls = lines_within most bytes in
        let back : suc i - 1 ≡ i = omega arith in
        let front = reading_front (listed units) None 1 (take (suc i) ls) (drop (suc i) ls) in
        let script : (script_within (listed units) most bytes).commands ≡ (reading (listed units) None 1 (take (suc i) ls)).commands ++ front.0 =
        script_commands most bytes ∙ ap (λ all. (reading (listed units) None 1 all).commands) (sym (take-append-drop (suc i) ls)) ∙ front.1 in
        let before = (reading (listed units) None 1 (take i ls)).commands in
        let whole : (script_within (listed units) most bytes).commands ≡ before ++ Operate r.operation ∷ front.0 =
        script ∙ ap (λ cs. cs ++ front.0) r.line ∙ append_assoc before (Operate r.operation ∷ []) front.0 in
        record {
          operation = r.operation;
          line = rw back r.line;
          refused = rw back r.refused;
          later = front.0;
          script = script;
          written = rw back (ap (λ cs. answers units (opening_state units) cs) whole ∙ written_around (opening_state units) before front.0 r.operation refusal r.refused);
        }

    -- a line with a warning is refused by a run that reaches it
    pub warns : (most : ℕ) (bytes : List ℕ) → WarnsOfRefusals units most bytes
    warns most bytes = λ n refusal known said reached.
        let ls = lines_within most bytes in
        let holds : HoldsFrom [] None 1 ls (IsRefused n refusal known) = subst (HoldsFrom [] None 1 ls) said.2 (claims_hold most bytes said.0 (IsRefused n refusal known) said.1) in
        let is : suc holds.0 ≡ n = omega (arith, holds.1) in
        let back : n - 1 ≡ holds.0 = omega (arith, holds.1) in
        subst (λ k. IsRefusedInRun units most bytes k refusal) is (in_run most bytes holds.0 refusal (holds.2 (subst (λ k. (reading (listed units) None 1 (take k ls)).fault ≡ None) back reached)))
