-- How a run ends, by its fault.
use Rattle.std.proofs.Common.{◌≡◌, ◌⊎◌, ℕ, ◌+◌, ◌<◌, ◌≤◌, Bool, true, false, List, [], ◌∷◌, ◌++◌, length, take, Option, Result, Ok, Err, OnOk, IfErr, ◌||◌, ◌==◌, refl, ◌∙◌, inl, inr, arith}
use Rattle.std.proofs.lemmas.List.{take_all}
use Rattle.std.specs.Io.KnownBytes.{Appends}
use Rattle.po_script.proofs.FailLemmas.{wanted_ends, end_wanted, script_ends, write_ends, past_ends, long_ends, end_well, end_script, end_write}
use Rattle.po_language.specs.Commands.{command_of}
use Rattle.po_script.specs.Script.{cut, whole_lines}
use Rattle.po_script.specs.Units.{ScriptUnits, Object, listed}
use Rattle.po_script.specs.Session.{state_of, answer}
use Rattle.po_script.specs.AnySession.{text_with}
use Rattle.po_script.specs.Ends.{IsLineRead, EndsAs, EndsWell}
use Rattle.po_script.specs.Interpreter.{Fails}
use Rattle.po_script.specs.Run.{Tells}
use Rattle.po_language.specs.declared.command.Command.{Command}
use Rattle.po_language.specs.declared.command.FaultKind.{FaultKind}
use Rattle.po_language.specs.declared.command.FaultKind.TheVariants.{ScriptTooLong, LineTooLong, UnknownCommand, NoUnit, SecondUnit, BadUnit, BadArgument}
use Rattle.po_language.specs.declared.run_error.RunError.{RunError}
use Rattle.po_language.specs.declared.run_error.RunError.TheVariants.{Script, Read, Write, Memory}
use Rattle.po_script.specs.declared.interpreter.Interpreter.{Interpreter}

line_read : (k : FaultKind) (n : ℕ) (bytes : List ℕ) (ended : Bool) → (n ≤ length (cut bytes).full) ⊎ (ended ≡ true) → IsLineRead k n bytes ended
line_read ScriptTooLong n bytes ended h = tt
line_read LineTooLong n bytes ended h = tt
line_read UnknownCommand n bytes ended h = h
line_read NoUnit n bytes ended h = h
line_read SecondUnit n bytes ended h = h
line_read BadUnit n bytes ended h = h
line_read BadArgument n bytes ended h = h

module _ {O : Type 0} (units : ScriptUnits) (object : O → Object units) (interpreter : Interpreter O) (bytes : List ℕ) (start now : Option (List ℕ)) (s : Tells units object interpreter bytes start now) (short : length (cut bytes).rest ≤ 4096) where
  -- a line that a newline ends isn't carried out
  pub newline_ends : (fault : RunError) (number : ℕ) (more : List ℕ) (later : Option (List ℕ)) (before bad ended : Bool) → length bytes < 67108864 → number ≡ length (cut bytes).full + 1 → before ≡ false → Fails units object fault interpreter number (cut bytes).rest now later before bad → EndsAs units fault (bytes ++ 10 ∷ more) start later ended false bad
  newline_ends (Script n k) number more later before bad ended room same fine h =
      let e = script_ends _ _ _ _ _ _ bytes start now s more n k room short h.0 (h.1 ∙ same) in
      (e.0, line_read k n (bytes ++ 10 ∷ more) ended (inl e.1), refl, h.3 ∙ fine, rw h.2 e.2)
  newline_ends Read number more later before bad ended room same fine h = absurd h
  newline_ends Write number more later before bad ended room same fine h =
      let e = write_ends _ _ _ _ _ _ bytes start now s more later h.0 h.2 room short h.1 h.3 in
      (refl, h.4, e.0, e.1, e.2, e.3)
  newline_ends Memory number more later before bad ended room same fine h =
      let w = wanted_ends _ _ _ _ _ _ bytes start now s more h.0 ended room short h.1 in
      (refl, h.3 ∙ fine, (whole_lines (listed units) bytes).commands, inr (h.0, w.0, w.1), rw h.2 s.told)

  pub run_past_ends : (number b : ℕ) (more : List ℕ) (ended : Bool) → length bytes ≡ 67108864 → number ≡ length (cut bytes).full + 1 → EndsAs units (Script number ScriptTooLong) (bytes ++ b ∷ more) start now ended false false
  run_past_ends number b more ended all same = let e = past_ends _ _ _ _ _ _ bytes start now s b more all short in rw same (e.0, tt, refl, refl, e.1)

  -- the last line isn't carried out
  pub end_ends : (fault : RunError) (number : ℕ) (later : Option (List ℕ)) (before bad : Bool) → length bytes ≤ 67108864 → number ≡ length (cut bytes).full + 1 → before ≡ false → Fails units object fault interpreter number (cut bytes).rest now later before bad → EndsAs units fault bytes start later true false bad
  end_ends (Script n k) number later before bad room same fine h =
      let e = end_script _ _ _ _ _ _ bytes start now s n k room short h.0 (h.1 ∙ same) in
      (e.0, line_read k n bytes true (inr refl), refl, h.3 ∙ fine, rw h.2 e.1)
  end_ends Read number later before bad room same fine h = absurd h
  end_ends Write number later before bad room same fine h =
      let e = end_write _ _ _ _ _ _ bytes start now s later h.0 h.2 room short h.1 h.3 in
      (refl, h.4, e.0, e.1, e.2, e.3)
  end_ends Memory number later before bad room same fine h =
      (refl, h.3 ∙ fine, (whole_lines (listed units) bytes).commands, inr (h.0, [], end_wanted _ _ _ _ _ _ bytes start now s h.0 room short h.1), rw h.2 s.told)

  -- the last line is carried out
  pub run_end_well : (c : Option Command) (later : Option (List ℕ)) (bad : Bool) → length bytes ≤ 67108864 → command_of (listed units) interpreter.begun (cut bytes).rest ≡ Ok c → Appends now later (text_with (answer units) (state_of object interpreter.session) c) → bad ≡ false → EndsWell units bytes start later true false bad
  run_end_well c later bad room says told fine = let e = end_well _ _ _ _ _ _ bytes start now s c later room short says told in (refl, refl, fine, e.0, e.1)

-- a line has more bytes than a line may have
pub run_long_ends : {O : Type 0} (units : ScriptUnits) (object : O → Object units) (interpreter : Interpreter O) (bytes : List ℕ) (start now : Option (List ℕ)) → Tells units object interpreter bytes start now → (number : ℕ) (more : List ℕ) (ended : Bool) → length bytes ≤ 67108864 → number ≡ length (cut bytes).full + 1 → 4096 < length (cut bytes).rest → EndsAs units (Script number LineTooLong) (bytes ++ more) start now ended false false
run_long_ends units object interpreter bytes start now s number more ended room same long = let e = long_ends _ _ _ _ _ _ bytes start now s more room long in rw same (e.0, tt, refl, refl, e.1)

-- if a line isn't too long, all of it is kept
pub whole_line : (line rest : List ℕ) → line ≡ take 4097 rest → length rest ≤ 4096 → line ≡ rest
whole_line line rest kept short = kept ∙ take_all 4097 rest (omega (arith, short))

-- if P holds of the error and Q follows from it, Q holds
pub err_weaker : {T E : Type 0} (P Q : E → Type 0) (r : Result T E) → ((e : E) → P e → Q e) → IfErr r P → IfErr r Q
err_weaker P Q (Ok x) f h = tt
err_weaker P Q (Err e) f h = f e h

-- a read that gave no byte has come to the end
pub or_true : (b : Bool) (n : ℕ) → n ≡ 0 → (b || (n == 0)) ≡ true
or_true true n h = refl
or_true false n h = rw h refl

-- if P holds of the success and Q follows from it, Q holds
pub ok_weaker : {T E : Type 0} (P Q : Type 0) (r : Result T E) → (P → Q) → OnOk r P → OnOk r Q
ok_weaker P Q (Ok x) f h = f h
ok_weaker P Q (Err e) f h = tt
