-- SPDX-License-Identifier: MIT
-- The meaning of a station: a store for one value, a gate, and entries that hand their calls on to a private one.
use Rattle.std.specs.Prelude.{◌≡◌, ℕ, ◌==◌, not, Bool, true, false, Result, Ok, Err, refl, if◌then◌else◌}
use Rattle.std.proofs.Common.{arith}
use Rattle.po_unit.specs.Meaning.{Meaning, IsLawful, LowersRank}
use Rattle.po_unit.specs.declared.outcome.Outcome.{Outcome}
use Rattle.po_unit.specs.declared.outcome.Outcome.TheVariants.{Complete, Requeue}

-- a station's store, and what its barriers depend on
pub record StationState : Type 0 where
  pub store : ℕ
  pub is_full : Bool
  pub is_open : Bool
  pub is_released : Bool
  pub is_spoiled : Bool

-- Pass faults if the station is spoiled, and otherwise is open if the station is (9.5.2, 9.5.3)
abbrev pub pass_barrier : StationState → Result Bool ℕ
pass_barrier s = if s.is_spoiled then Err 1 else Ok s.is_open

-- Put, entry 0, is open while the store is empty, Get, 1, while it is full; Pass is 2; Open, 3, and Release, 4, are always
-- open, and Never, 5, never is; Change, 6, is open if the station is, and Stay, 7, once calls are released
abbrev pub station_barrier : StationState → ℕ → Result Bool ℕ
station_barrier s e =
    if e == 0 then Ok (not s.is_full) else
    (if e == 1 then Ok s.is_full else
    (if e == 2 then pass_barrier s else
    (if e == 6 then Ok s.is_open else
    (if e == 7 then Ok s.is_released else
    (if e == 5 then Ok false else Ok true)))))

-- Put fills the store, and Get empties it; Open opens the station, and Release lets the calls on Stay go
abbrev pub station_after : StationState → ℕ → ℕ → StationState
station_after s e v =
    if e == 0 then record s { store = v; is_full = true } else
    (if e == 1 then record s { is_full = false } else
    (if e == 3 then record s { is_open = true } else
    (if e == 4 then record s { is_released = true } else s)))

-- Get gives the store; Open and Change requeue on Stay with abort (9.5.4)
abbrev pub station_outcome : StationState → ℕ → ℕ → Outcome ℕ
station_outcome s e v =
    if e == 1 then Complete s.store else
    (if e == 3 then Requeue 7 true v else
    (if e == 6 then Requeue 7 true v else Complete v))

-- Signal opens the station, and Spoil spoils it
abbrev pub station_procedure : StationState → ℕ → StationState
station_procedure s op = if op == 0 then record s { is_open = true } else record s { is_spoiled = true }

-- how many requeues are still ahead of a call
abbrev pub station_rank : ℕ → ℕ
station_rank e = if e == 3 then 1 else (if e == 6 then 1 else 0)

abbrev pub station_meaning : Meaning StationState ℕ
station_meaning = record {
  entries = λ s. 8;
  procedures = λ s. 2;
  functions = λ s. 1;
  barrier = λ s e c. station_barrier s e;
  body = λ s e v c. (station_after s e v, station_outcome s e v);
  procedure = λ s op v c. (station_procedure s op, Ok v);
  function = λ s op v c. Ok s.store;
  rank = λ e v. station_rank e;
}

-- each requeue lowers the rank
lowers : (a b c : Bool) (s : StationState) (e v : ℕ) → (e == 3) ≡ b → (e == 6) ≡ c → LowersRank station_meaning s e v
    (if a then Complete s.store else (if b then Requeue 7 true v else (if c then Requeue 7 true v else Complete v)))
lowers true b c s e v is_open is_change = tt
lowers false true c s e v is_open is_change = rw is_open (omega arith, omega arith)
lowers false false true s e v is_open is_change = rw (is_open, is_change) (omega arith, omega arith)
lowers false false false s e v is_open is_change = tt

pub station_lawful : IsLawful station_meaning
station_lawful = record {
  body_numbers = λ s e v c. record { entries = refl; procedures = refl; functions = refl };
  procedure_numbers = λ s op v c. record { entries = refl; procedures = refl; functions = refl };
  requeues = λ s e v c. lowers (e == 1) (e == 3) (e == 6) s e v refl refl;
}
