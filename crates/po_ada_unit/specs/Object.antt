-- SPDX-License-Identifier: MIT
-- A protected object that is an Ada text, as a unit.
use Rattle.std.specs.Prelude.{◌≡◌, true, false, ℕ, zero, suc, min, Bool, cond, not, List, [], ◌++◌, length, replicate, take, drop, get_or, slice_get, slice_set, Option, Some, None, Result, Ok, Err, ℤ, pos, nat_lt}
use Rattle.std.specs.Ordering.{int_eq}
use Rattle.std.proofs.Common.{rules, refl}
use Rattle.po_unit.specs.Meaning.{Meaning, IsLawful, SameNumbers, LowersRank}
use Rattle.po_unit.specs.declared.outcome.Outcome.{Outcome}
use Rattle.po_unit.specs.declared.outcome.Outcome.TheVariants.{Complete, Raise, Requeue}
use Rattle.po_program.specs.declared.tree.Completion.{Completion}
use Rattle.po_program.specs.declared.tree.Completion.TheVariants.{Normal, Exited, Returned, Raised, Requeued}
use Rattle.po_program.specs.declared.tree.Entry.{Entry}
use Rattle.po_program.specs.declared.tree.Program.{Program}
use Rattle.po_program.specs.Exceptions.{program_error, too_many_requeues}
use Rattle.po_program.specs.Execution.{setting_of, operation_executed}
use Rattle.po_ada_unit.specs.declared.values.Values.{Values}
use Rattle.po_ada_unit.specs.Frames.{frame, no_values}

-- A protected object: its program, and its data.
pub record Object : Type 0 where
  pub program : Program
  pub cells : List ℤ

abbrev pub object : Program → List ℤ → Object
object p d = record { program = p; cells = d }

abbrev pub values : List ℤ → ℕ → Values
values vs r = record { cells = vs; requeues = r }

-- How many entries, procedures or functions a unit has if the program has n of them (this project's own).
abbrev pub numbered : ℕ → ℕ
numbered n = min n 65535

-- How an operation ends, and the data and the slots that it leaves.
abbrev pub End : Type 0
End = Completion × List ℤ × List ℤ

-- Whether the barrier is True: it leaves its value in the first slot (9.5.2).
abbrev pub opened : Completion → ℤ → Result Bool ℕ
opened Normal z = Ok (not (int_eq z (pos 0)))
opened (Exited n) z = Err program_error
opened Returned z = Err program_error
opened (Raised k) z = Err k
opened (Requeued e w) z = Err program_error

abbrev pub is_open : End → Result Bool ℕ
is_open r = opened r.0 (get_or r.2 0 (pos 0))

abbrev pub barrier_of : Option Entry → Object → List ℕ → Result Bool ℕ
barrier_of None s c = Err program_error
barrier_of (Some e) s c = is_open (operation_executed (setting_of s.program.operations.items s.cells c) e.barrier [] (frame no_values e.index))

-- A requeue spends one of the call's, and names an entry (9.5.4).
abbrev pub requeue_of : ℕ → List ℤ → ℕ → ℕ → Bool → Outcome Values
requeue_of n vs zero e w = Raise too_many_requeues
requeue_of n vs (suc r) e w = cond (nat_lt e n) (Requeue e w (values vs r)) (Raise program_error)

-- How an entry body ends, if the object has n entries and the call may still be requeued r times (9.5.2).
abbrev pub outcome_of : ℕ → ℕ → List ℤ → Completion → Outcome Values
outcome_of n r vs Normal = Complete (values vs r)
outcome_of n r vs (Exited k) = Raise program_error
outcome_of n r vs Returned = Raise program_error
outcome_of n r vs (Raised k) = Raise k
outcome_of n r vs (Requeued e w) = requeue_of n vs r e w

abbrev pub body_ended : Object → Values → End → Object × Outcome Values
body_ended s v r = (object s.program r.1, outcome_of (numbered (length s.program.entries.items)) v.requeues (take 8 r.2) r.0)

abbrev pub body_of : Option Entry → Object → Values → List ℕ → Object × Outcome Values
body_of None s v c = (s, Raise program_error)
body_of (Some e) s v c = body_ended s v (operation_executed (setting_of s.program.operations.items [] c) e.body s.cells (frame v.cells e.index))

-- What a procedure or a function replies: the values of its parameters, or the exception (6.4.1).
abbrev pub reply : Completion → List ℤ → ℕ → Result Values ℕ
reply Normal vs r = Ok (values vs r)
reply (Exited n) vs r = Err program_error
reply Returned vs r = Err program_error
reply (Raised k) vs r = Err k
reply (Requeued e w) vs r = Err program_error

abbrev pub procedure_ended : Object → Values → End → Object × Result Values ℕ
procedure_ended s v r = (object s.program r.1, reply r.0 (take 8 r.2) v.requeues)

abbrev pub procedure_of : Option ℕ → Object → Values → List ℕ → Object × Result Values ℕ
procedure_of None s v c = (s, Err program_error)
procedure_of (Some o) s v c = procedure_ended s v (operation_executed (setting_of s.program.operations.items [] c) o s.cells (frame v.cells (pos 0)))

abbrev pub function_ended : Values → End → Result Values ℕ
function_ended v r = reply r.0 (take 8 r.2) v.requeues

-- A function finds constant data (9.5.1).
abbrev pub function_of : Option ℕ → Object → Values → List ℕ → Result Values ℕ
function_of None s v c = Err program_error
function_of (Some o) s v c = function_ended v (operation_executed (setting_of s.program.operations.items s.cells c) o [] (frame v.cells (pos 0)))

-- What the unit of a program means.
abbrev pub ada_meaning : Meaning Object Values
ada_meaning = record {
  entries = λ s. numbered (length s.program.entries.items);
  procedures = λ s. numbered (length s.program.procedures.items);
  functions = λ s. numbered (length s.program.functions.items);
  barrier = λ s e c. barrier_of (slice_get s.program.entries.items e) s c;
  body = λ s e v c. body_of (slice_get s.program.entries.items e) s v c;
  procedure = λ s op v c. procedure_of (slice_get s.program.procedures.items op) s v c;
  function = λ s op v c. function_of (slice_get s.program.functions.items op) s v c;
  rank = λ e v. v.requeues;
}

-- The program stays as it is.
kept : (s : Object) (d : List ℤ) → SameNumbers ada_meaning s (object s.program d)
kept s d = record { entries = refl; procedures = refl; functions = refl }

unchanged : (s : Object) → SameNumbers ada_meaning s s
unchanged s = record { entries = refl; procedures = refl; functions = refl }

body_kept : (s : Object) (v : Values) (c : List ℕ) (e : Option Entry) → SameNumbers ada_meaning s (body_of e s v c).0
body_kept s v c None = unchanged s
body_kept s v c (Some e) = kept s (operation_executed (setting_of s.program.operations.items [] c) e.body s.cells (frame v.cells e.index)).1

procedure_kept : (s : Object) (v : Values) (c : List ℕ) (o : Option ℕ) → SameNumbers ada_meaning s (procedure_of o s v c).0
procedure_kept s v c None = unchanged s
procedure_kept s v c (Some o) = kept s (operation_executed (setting_of s.program.operations.items [] c) o s.cells (frame v.cells (pos 0))).1

-- A requeue that is carried out names an entry, and leaves the call one requeue less.
named : (s : Object) (e : ℕ) (v : Values) (r : ℕ) (vs : List ℤ) (t : ℕ) (w : Bool) (b : Bool) → v.requeues ≡ suc r → nat_lt t (numbered (length s.program.entries.items)) ≡ b → LowersRank ada_meaning s e v (cond b (Requeue t w (values vs r)) (Raise program_error))
named s e v r vs t w true h l = (search (rules, l), search (rules, h))
named s e v r vs t w false h l = tt

lowers : (s : Object) (e : ℕ) (v : Values) (r : ℕ) → v.requeues ≡ r → (vs : List ℤ) (k : Completion) → LowersRank ada_meaning s e v (outcome_of (numbered (length s.program.entries.items)) r vs k)
lowers s e v r h vs Normal = tt
lowers s e v r h vs (Exited n) = tt
lowers s e v r h vs Returned = tt
lowers s e v r h vs (Raised k) = tt
lowers s e v zero h vs (Requeued t w) = tt
lowers s e v (suc r) h vs (Requeued t w) = named s e v r vs t w (nat_lt t (numbered (length s.program.entries.items))) h refl

body_lowers : (s : Object) (e : ℕ) (v : Values) (c : List ℕ) (o : Option Entry) → LowersRank ada_meaning s e v (body_of o s v c).1
body_lowers s e v c None = tt
body_lowers s e v c (Some x) =
    let r = operation_executed (setting_of s.program.operations.items [] c) x.body s.cells (frame v.cells x.index) in
    lowers s e v v.requeues refl (take 8 r.2) r.0

-- Each program makes a lawful unit, whatever its bodies are.
pub ada_lawful : IsLawful ada_meaning
ada_lawful = record {
  body_numbers = λ s e v c. body_kept s v c (slice_get s.program.entries.items e);
  procedure_numbers = λ s o v c. procedure_kept s v c (slice_get s.program.procedures.items o);
  requeues = λ s e v c. body_lowers s e v c (slice_get s.program.entries.items e);
}
