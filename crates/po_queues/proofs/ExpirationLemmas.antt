-- How a change of a call, of the rows or of the clock changes what expires.
use Rattle.std.proofs.Common.{◌≡◌, ℕ, ◌+◌, ◌-◌, ◌<◌, ◌≤◌, Bool, true, false, cond, List, ◌++◌, length, take}
use Rattle.std.proofs.Common.{replicate, Option, Some, None, sym, ap, subst, ◌∙◌, arith}
use Rattle.std.specs.Prelude.{IfSome}
use Rattle.std.proofs.lemmas.List.{length-append, length-replicate, take_all}
use Rattle.po_queues.proofs.PlaceLemmas.{placed_same, has_call, found_below, number_of_least, least_is_first}
use Rattle.po_queues.proofs.PlaceLemmas.{none_is_due}
use Rattle.po_queues.proofs.RoomLemmas.{read_room}
use Rattle.po_queues.specs.Arrived.{has_come}
use Rattle.po_queues.specs.Expiring.{ExpirationsView, IsFirstDue, call_of, expiration_of}
use Rattle.po_queues.specs.Least.{number_of, IsLeastAt}
use Rattle.po_queues.specs.Timed.{HoldsExpirations, KeepsExpirations}
use Rattle.po_queues.specs.declared.expiration.Expiration.{Expiration}

-- a row with more room reads the same, and has room for `keys` keys
grown_row : (row row' : List (Option ℕ)) (keys : ℕ) → row' ≡ row ++ replicate (keys - length row) None
    → ((k : ℕ) → number_of row' k ≡ number_of row k) × (keys ≤ length row') × (length row ≤ length row')
grown_row row row' keys is =
    let rest : List (Option ℕ) = replicate (keys - length row) None in
    let e : length row' ≡ length row + length rest = ap length is ∙ length-append row rest in
    let f : length rest ≡ keys - length row = length-replicate (keys - length row) None in
    (λ k. ap (λ l. number_of l k) is ∙ read_room None row (keys - length row) k, omega (arith, e, f), omega (arith, e, f))

-- calls read the same whether they got more room or not, and there is room for at most n keys
grown_calls : (calls : List (Option Expiration)) (n m : ℕ) → length calls ≤ n → m ≡ n - length calls → (grown : Bool)
    (calls' : List (Option Expiration)) → calls' ≡ cond grown (take n calls ++ replicate m None) calls
    → ((k : ℕ) → call_of calls' k ≡ call_of calls k) × (length calls' ≤ n)
grown_calls calls n m long m_is true calls' is =
    let rest : List (Option Expiration) = replicate m None in
    let more : calls' ≡ calls ++ rest = is ∙ ap (λ l. l ++ rest) (take_all n calls long) in
    let e : length calls' ≡ length calls + length rest = ap length more ∙ length-append calls rest in
    let f : length rest ≡ m = length-replicate m None in
    (λ k. ap (λ l. call_of l k) more ∙ read_room None calls m k, omega (arith, e, f, long, m_is))
grown_calls calls n m long m_is false calls' is =
    let same = ap length is in
    (λ k. ap (λ l. call_of l k) is, omega (arith, same, long))

module _ {calls : List (Option Expiration)} {later due : List (Option ℕ)} {clock : ℕ}
    (k : KeepsExpirations calls later due clock) where
  module _ {view : ExpirationsView} (seen : ◌≡◌ {A = ExpirationsView} (record { clock = clock; calls = calls }) view) where
    -- the key with the least stamp, if there is one, is that of the first call that is due
    pub due_some : (found : Option ℕ) → IfSome found (λ key. IsLeastAt due key) → IfSome found (λ key. IsFirstDue view key)
    due_some None least = tt
    due_some (Some key) least =
        subst (λ v. IsFirstDue v key) seen (least_is_first k.holds k.ahead key least)

    -- if there is none, no call is due
    pub due_none : ((key : ℕ) → number_of due key ≡ None) → (key : ℕ)
        → has_come view.clock (expiration_of view.calls key) ≡ false
    due_none none key = subst (λ (v : ExpirationsView). has_come v.clock (expiration_of v.calls key) ≡ false) seen
        (none_is_due k.holds k.ahead none key)

  -- more room in both rows, and for calls if there was memory
  pub reserved : (n m : ℕ) → length calls ≤ n → m ≡ n - length calls
      → (later' due' : List (Option ℕ)) → later' ≡ later ++ replicate (n - length later) None
      → due' ≡ due ++ replicate (n - length due) None
      → (grown : Bool) (calls' : List (Option Expiration))
      → calls' ≡ cond grown (take n calls ++ replicate m None) calls → KeepsExpirations calls' later' due' clock
  reserved n m long m_is later' due' later_is due_is grown calls' is =
      let h = k.holds in
      let c = grown_calls calls n m long m_is grown calls' is in
      let l = grown_row later later' n later_is in
      let d = grown_row due due' n due_is in
      record {
        holds = record {
          placed = λ j. placed_same clock (call_of calls j) (call_of calls' j) (number_of later j) (number_of later' j)
              (number_of due j) (number_of due' j)
              (c.0 j) (l.0 j) (d.0 j) (h.placed j);
          later_room = omega (arith, c.1, l.1);
          due_room = omega (arith, c.1, d.1);
        };
        ahead = λ j. subst (λ o. IfSome o (λ time. clock < time)) (sym (l.0 j)) (k.ahead j);
      }

-- the key that moves has a time in the first row and room in the second
pub moving : {calls : List (Option Expiration)} {later due : List (Option ℕ)} {clock : ℕ}
    (h : HoldsExpirations calls later due clock) (key : ℕ) → IsLeastAt later key
    → IfSome (number_of later key) (λ n. n ≤ clock) → (n : ℕ) × (number_of later key ≡ Some n) × (key < length due)
moving {calls} {later} {due} {clock} h key least within =
    let n = number_of_least later key clock least within in
    let call = has_call h key n.0 n.1 in
    (n.0, n.1, omega (arith, found_below calls key call.0 call.1, h.due_room))
