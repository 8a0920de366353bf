-- How many calls aren't collected, with one ticket more or one less.
use Rattle.std.proofs.Common.{◌≡◌, ◌≢◌, ℕ, zero, suc, ◌+◌, List, [], ◌∷◌, refl, ap, arith, cond, Option, Some, None, is_some}
use Rattle.std.proofs.lemmas.List.Sums.{sum_by-cons}
use Rattle.po_engine.specs.Tickets.{number_at, SetsTicket, uncollected}

-- one if there is a ticket, else none
abbrev held : Option ℕ → ℕ
held o = cond (is_some o) 1 0

first : (o : Option ℕ) (os : List (Option ℕ)) → uncollected (o ∷ os) ≡ held o + uncollected os
first o os = sum_by-cons (λ p. cond (is_some p) 1 0) o os

-- lists with the same tickets have as many
same_tickets : (old new : List (Option ℕ)) → ((k : ℕ) → number_at new k ≡ number_at old k) → uncollected new ≡ uncollected old
same_tickets [] [] h = refl
same_tickets [] (p ∷ ps) h = omega (arith, first p ps, ap held (h zero), same_tickets [] ps (λ k. h (suc k)))
same_tickets (o ∷ os) [] h = omega (arith, first o os, ap held (h zero), same_tickets os [] (λ k. h (suc k)))
same_tickets (o ∷ os) (p ∷ ps) h = omega (arith, first o os, first p ps, ap held (h zero), same_tickets os ps (λ k. h (suc k)))

-- lists with the same tickets except at one key differ by what is there
others_same : (old new : List (Option ℕ)) (key : ℕ) → ((k : ℕ) → k ≢ key → number_at new k ≡ number_at old k) → uncollected new + held (number_at old key) ≡ uncollected old + held (number_at new key)
others_same [] [] key h = omega arith
others_same [] (p ∷ ps) zero h = omega (arith, first p ps, same_tickets [] ps (λ k. h (suc k) (λ e. absurd (omega (arith, e)))))
others_same [] (p ∷ ps) (suc key) h = omega (arith, first p ps, ap held (h zero (λ e. absurd (omega (arith, e)))), others_same [] ps key (λ k ne. h (suc k) (λ e. ne (omega (arith, e)))))
others_same (o ∷ os) [] zero h = omega (arith, first o os, same_tickets os [] (λ k. h (suc k) (λ e. absurd (omega (arith, e)))))
others_same (o ∷ os) [] (suc key) h = omega (arith, first o os, ap held (h zero (λ e. absurd (omega (arith, e)))), others_same os [] key (λ k ne. h (suc k) (λ e. ne (omega (arith, e)))))
others_same (o ∷ os) (p ∷ ps) zero h = omega (arith, first o os, first p ps, same_tickets os ps (λ k. h (suc k) (λ e. absurd (omega (arith, e)))))
others_same (o ∷ os) (p ∷ ps) (suc key) h = omega (arith, first o os, first p ps, ap held (h zero (λ e. absurd (omega (arith, e)))), others_same os ps key (λ k ne. h (suc k) (λ e. ne (omega (arith, e)))))

-- one call more
pub one-more : (old new : List (Option ℕ)) (key n : ℕ) → number_at old key ≡ None → SetsTicket old new key (Some n) → uncollected new ≡ uncollected old + 1
one-more old new key n vacant set =
    omega (arith, others_same old new key set.others, ap held vacant, ap held set.changed)

-- one call less
pub one-less : (old new : List (Option ℕ)) (key n : ℕ) → number_at old key ≡ Some n → SetsTicket old new key None → uncollected new + 1 ≡ uncollected old
one-less old new key n there set =
    omega (arith, others_same old new key set.others, ap held there, ap held set.changed)

-- if there is no ticket, no call is uncollected
pub none-held : (tickets : List (Option ℕ)) → ((k : ℕ) → number_at tickets k ≡ None) → uncollected tickets ≡ 0
none-held tickets h = same_tickets [] tickets h
