-- SPDX-License-Identifier: MIT
-- What an allocator means: calls take numbers of a resource, and wait until that many are free.
use Rattle.std.specs.Prelude.{ℕ, ◌≡◌, ◌<◌, ◌≤◌, ◌+◌, ◌-◌, List, [], ◌∷◌, nat_lt, nat_le, ◌==◌, ◌||◌, pos, Bool, true, false, Result, Ok, Err, refl, codes, if◌then◌else◌}
use Rattle.std.proofs.Common.{arith}
use Rattle.std.proofs.lemmas.Bool.Decides.{nat_tests}
use Rattle.po_unit.specs.declared.decl.Decl.{Decl}
use Rattle.po_unit.specs.Meaning.{Meaning, IsLawful, LowersRank, SameNumbers}
use Rattle.po_unit.specs.declared.outcome.Outcome.{Outcome}
use Rattle.po_unit.specs.declared.outcome.Outcome.TheVariants.{Complete, Raise, Requeue}
use Rattle.po_classic_units.specs.Declarations.{public_entry, private_family}
use Rattle.po_classic_units.specs.ScriptUnit.{KnownUnit}
use Rattle.po_classic_units.specs.Sizes.{IsSize}

-- how many there are of the resource, and how many of them are free
pub record AllocatorState : Type 0 where
  pub size : ℕ
  pub free : ℕ

-- the allocator of this size as it is made
abbrev pub new_allocator : ℕ → AllocatorState
new_allocator size = record { size = size; free = size }

-- An allocator of a size that it may have, with no more free than there are.
pub record KeepsWithin (a : AllocatorState) : Type 0 where
  pub sized : IsSize a.size
  pub within : a.free ≤ a.size

-- An allocator as it is made, of any size that it may have.
pub record IsNewAllocator (a : AllocatorState) : Type 0 where
  pub all_free : a.free ≡ a.size
  pub sized : IsSize a.size

-- Request and Claim, the entries 0 and 1, are always open; Grant(i), the entry i + 1, is open if i are free
abbrev pub allocator_barrier : AllocatorState → ℕ → Bool
allocator_barrier a e = nat_lt e 2 || nat_le (e - 1) a.free

-- a number of the resource that there can't be
abbrev pub is_beyond : ℕ → ℕ → Bool
is_beyond most v = (v == 0) || nat_lt most v

-- Request requeues on Grant(v) with abort and Claim without (9.5.4), unless there are never v to give
abbrev pub ask : AllocatorState → Bool → ℕ → Outcome ℕ
ask a with_abort v = if is_beyond a.size v then Raise 2 else Requeue (v + 1) with_abort v

-- i are taken, unless fewer are free
abbrev pub grant : AllocatorState → ℕ → AllocatorState
grant a i = if nat_le i a.free then record a { free = a.free - i } else a

abbrev pub allocator_body : AllocatorState → ℕ → ℕ → AllocatorState × Outcome ℕ
allocator_body a e v = if nat_lt e 2 then (a, ask a (e == 0) v) else (grant a (e - 1), Complete v)

-- v are given back, unless fewer are taken
abbrev pub release : AllocatorState → ℕ → AllocatorState × Result ℕ ℕ
release a v = if is_beyond (a.size - a.free) v then (a, Err 1) else (record a { free = a.free + v }, Ok v)

-- how many requeues may follow
abbrev pub allocator_rank : ℕ → ℕ
allocator_rank e = if nat_lt e 2 then 1 else 0

abbrev pub allocator_meaning : Meaning AllocatorState ℕ
allocator_meaning = record {
  entries = λ a. a.size + 2;
  procedures = λ a. 1;
  functions = λ a. 1;
  barrier = λ a e c. Ok (allocator_barrier a e);
  body = λ a e v c. allocator_body a e v;
  procedure = λ a op v c. release a v;
  function = λ a op v c. Ok a.free;
  rank = λ e v. allocator_rank e;
}

-- the declarations of an allocator's entries, in the order of their numbers (9.5.2)
abbrev pub allocator_declarations : ℕ → List Decl
allocator_declarations size = public_entry ∷ public_entry ∷ private_family (pos 1) (pos size) ∷ []

-- what scripts know of an allocator
abbrev pub allocator_unit : KnownUnit AllocatorState
allocator_unit = record {
  names = record {
    unit = codes "allocator";
    is_sized = true;
    entries = codes "Request" ∷ codes "Claim" ∷ codes "Grant" ∷ [];
    procedures = codes "Release" ∷ [];
    functions = codes "State" ∷ [];
  };
  opening = new_allocator;
  declarations = λ a. allocator_declarations a.size;
}

split_or : (a b : Bool) → (a || b) ≡ false → (a ≡ false) × (b ≡ false)
split_or true b h = cc
split_or false b h = (refl, h)

-- a number of the resource that there can be is from 1 to the size
in_range : (a : AllocatorState) (v : ℕ) → is_beyond a.size v ≡ false → v + 1 < a.size + 2
in_range a v h = let k = split_or (v == 0) (nat_lt a.size v) h in let high : nat_lt a.size v ≡ false = k.1 in grind (arith, nat_tests)

above : (a : AllocatorState) (v : ℕ) → is_beyond a.size v ≡ false → nat_lt (v + 1) 2 ≡ false
above a v h = let k = split_or (v == 0) (nat_lt a.size v) h in let some : (v == 0) ≡ false = k.0 in grind (arith, nat_tests)

-- the requeue on a Grant lowers the rank
lowers : (asks beyond : Bool) (a : AllocatorState) (e v : ℕ) (with_abort : Bool) → nat_lt e 2 ≡ asks → is_beyond a.size v ≡ beyond → LowersRank allocator_meaning a e v (if◌then◌else◌ {A = AllocatorState × Outcome ℕ} asks (a, (if beyond then Raise 2 else Requeue (v + 1) with_abort v)) (grant a (e - 1), Complete v)).1
lowers true true a e v w asks beyond = tt
lowers true false a e v w asks beyond = (in_range a v beyond, rw (asks, above a v beyond) (omega arith))
lowers false b a e v w asks beyond = tt

-- a state has the size of the other
same_numbers : (a b : AllocatorState) → b.size ≡ a.size → SameNumbers allocator_meaning a b
same_numbers a b h = record { entries = rw h refl; procedures = refl; functions = refl }

granted_size : (enough : Bool) (a : AllocatorState) (i : ℕ) → (if enough then record a { free = a.free - i } else a).size ≡ a.size
granted_size true a i = refl
granted_size false a i = refl

body_size : (asks : Bool) (a : AllocatorState) (e v : ℕ) → (if◌then◌else◌ {A = AllocatorState × Outcome ℕ} asks (a, ask a (e == 0) v) (grant a (e - 1), Complete v)).0.size ≡ a.size
body_size true a e v = refl
body_size false a e v = granted_size (nat_le (e - 1) a.free) a (e - 1)

release_size : (beyond : Bool) (a : AllocatorState) (v : ℕ) → (if◌then◌else◌ {A = AllocatorState × Result ℕ ℕ} beyond (a, Err 1) (record a { free = a.free + v }, Ok v)).0.size ≡ a.size
release_size true a v = refl
release_size false a v = refl

pub allocator_lawful : IsLawful allocator_meaning
allocator_lawful = record {
  body_numbers = λ a e v c. same_numbers a (allocator_body a e v).0 (body_size (nat_lt e 2) a e v);
  procedure_numbers = λ a op v c. same_numbers a (release a v).0 (release_size (is_beyond (a.size - a.free) v) a v);
  requeues = λ a e v c. lowers (nat_lt e 2) (is_beyond a.size v) a e v (e == 0) refl refl;
}
