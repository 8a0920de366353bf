-- The log of an object whose history may have been cut is a whole history, and its answers are those of the object.
use Rattle.std.proofs.Common.{◌≡◌, ◌<◌, ◌≤◌, ◌+◌, ◌⊎◌, inl, inr, ℕ, List, [], ◌∷◌, ◌++◌, refl, sym, ap, ◌∙◌, subst, append_assoc, length-append, Bool, true, false, Option, Some, None, length, arith, Result}
use Rattle.std.specs.Prelude.{find, IfSome, option_map, if◌then◌else◌, ◌&&◌, slice_index}
use mathlib.Core.List.{IsPrefix, append_cancel_left, append-nil}
use Rattle.std.proofs.lemmas.Bool.{cases_lt}
use Rattle.std.proofs.lemmas.List.Elements.{All-append}
use Rattle.po_unit.specs.Meaning.{Meaning}
use Rattle.po_calls.specs.declared.call.Call.{Call}
use Rattle.po_calls.specs.declared.call.Deadline.{Deadline}
use Rattle.po_calls.specs.declared.end.End.{End}
use Rattle.po_calls.specs.declared.end.CallStatus.TheVariants.{Unknown}
use Rattle.po_history.specs.declared.event.Event.{Event}
use Rattle.po_history.specs.declared.event.Event.TheVariants.{Issue, Tick, Cancel}
use Rattle.po_history.specs.Histories.{VolumeView, joined}
use Rattle.po_history.proofs.Volumes.{joined-append}
use Rattle.po_engine.specs.declared.ended.Ended.{Ended}
use Rattle.po_engine.specs.Finding.{IsFound}
use Rattle.po_engine.specs.Tickets.{status_by, end_at}
use Rattle.po_engine.specs.WaitingCalls.{has_number, is_of}
use Rattle.po_engine.specs.ObjectState.{ObjectState, opening_state, counts_in, IsAtRest}
use Rattle.po_engine.specs.Step.{replay, IsLegal}
use Rattle.po_core.specs.declared.attempt.Attempt.{Attempt}
use Rattle.po_core.specs.declared.attempt.Attempt.TheVariants.{Cancelled, Kept}
use Rattle.po_core.specs.Setup.{Setup}
use Rattle.po_core.specs.Public.{AllPublic, NamesPublic}
use Rattle.po_core.specs.View.{View, next_place}
use Rattle.po_core.specs.Cutting.{AreVolumes, KeepsVolumes, cut, cut_off}
use Rattle.po_core.specs.Headline.{Headline}
use Rattle.po_core.specs.ProtectedAction.{IsProtectedAction, IsAttemptOf, IsAttemptOnCall, attempt_answer, is_without_abort}
use Rattle.po_core.proofs.Joining.{ends-at}
use Rattle.po_core.proofs.Runs.{replay-append, legal-append}
use Rattle.po_receipts.specs.declared.asked.Asked.{Asked}
use Rattle.po_receipts.specs.Passes.{PassView}
use Rattle.po_receipts.specs.Receipts.{answer_of}
use Rattle.po_receipts.proofs.Told.{further}
use Rattle.po_receipts.specs.OneHistory.{state_after, end_in, IsWholeHistory, Stands, HasEnded, IsAnswered, IsTicked, IsFunctionAt, IsCountAt, IsAttempted, IsCutOff, HoldsAt, view_after, attempted, IsAttempt, IsWholeLog}

module _ {S V : Type 0} (m : Meaning S V) where
  abbrev from : View S V → ObjectState S V
  from view = opening_state view.setup.opening view.setup.first_number

  -- the log leads to the present state
  pub whole-leads : (view : View S V) (log : List (Event V)) → Headline m view → IsWholeLog m view log → state_after m view.setup log ≡ view.state
  whole-leads view log h w =
      let limit = view.setup.max_queue in
      ap (state_after m view.setup) w.2 ∙ (replay-append m limit (from view) (joined w.0) view.events ∙ (ap (λ (s : ObjectState S V). replay m limit s view.events) w.1.leads.to_there ∙ h.sound.replays.leads))

  pub whole-history : (view : View S V) (log : List (Event V)) → Headline m view → IsWholeLog m view log → IsWholeHistory m view.setup log
  whole-history view log h w =
      let limit = view.setup.max_queue in
      let legal : IsLegal m limit (from view) (joined w.0 ++ view.events) =
      legal-append m limit (from view) (joined w.0) view.events w.1.leads.legal (subst (λ (s : ObjectState S V). IsLegal m limit s view.events) (sym w.1.leads.to_there) h.sound.replays.legal) in
      record {
        legal = subst (IsLegal m limit (from view)) (sym w.2) legal;
        public = subst (λ (l : List (Event V)). AllPublic view.setup.shape l) (sym w.2) (All-append (NamesPublic view.setup.shape) (joined w.0) view.events w.1.leads.public h.sound.replays.public);
        rest = subst (IsAtRest m) (sym (whole-leads view log h w)) h.rest;
      }

  -- after a command, the log with the new events is again the object's log
  pub whole-on : (old new : View S V) (log more : List (Event V)) → KeepsVolumes m old new → IsWholeLog m old log → old.events ++ more ≡ new.events → IsWholeLog m new (log ++ more)
  whole-on old new log more k w is =
      (w.0, k w.0 w.1, ap (λ (l : List (Event V)). l ++ more) w.2 ∙ (append_assoc (joined w.0) old.events more ∙ ap (λ (l : List (Event V)). joined w.0 ++ l) is))

  -- a cut leaves the log as it is
  pub whole-cut : (old new : View S V) (log : List (Event V)) → new ≡ cut m old → ((volumes : List (VolumeView V)) → AreVolumes m old volumes → AreVolumes m new (volumes ++ cut_off old ∷ [])) → IsWholeLog m old log → IsWholeLog m new log
  whole-cut old new log is j w =
      (w.0 ++ cut_off old ∷ [], j w.0 w.1, w.2 ∙ sym (ap (λ (v : View S V). joined (w.0 ++ cut_off old ∷ []) ++ v.events) is ∙ (append-nil (joined (w.0 ++ cut_off old ∷ [])) ∙ joined-append w.0 (cut_off old))))

  -- the log has all events before the next place
  pub log-counted : (view : View S V) (log : List (Event V)) → IsWholeLog m view log → view.setup.first_place + length log ≡ next_place view
  log-counted view log w =
      let before = ends-at view.setup.first_place w.0 view.base.place w.1.run_on in
      let both = length-append (joined w.0) view.events in
      let all = ap (λ (l : List (Event V)). length l) w.2 in
      omega (arith, before, both, all)

  -- and so it did before a command, by the places after it
  pub placed-on : (old new before : View S V) (log here : List (Event V)) → before ≡ old → here ≡ log → KeepsVolumes m old new → IsWholeLog m old log → IsPrefix old.events new.events
      → length here + new.setup.first_place + length new.events ≡ next_place new + length before.events
  placed-on old new before log here was same k w p =
      let counted = log-counted new (log ++ p.0) (whole-on old new log p.0 k w p.1) in
      let longer = length-append log p.0 in
      let grown : length old.events + length p.0 ≡ length new.events = sym (length-append old.events p.0) ∙ ap (λ (l : List (Event V)). length l) p.1 in
      let now : length here ≡ length log = ap (λ (l : List (Event V)). length l) same in
      let first : length before.events ≡ length old.events = ap (λ (v : View S V). length v.events) was in
      omega (arith, counted, longer, grown, now, first)

  -- what holds of the object after its whole log holds at a moment of its history
  pub held-on : (made : Option (Setup S)) (view : View S V) (holds : View S V → Type 0) (seen log after : List (Event V)) → made ≡ Some view.setup → Headline m view → IsWholeLog m view log
      → IsPrefix seen log → after ≡ log → holds (view_after m view.setup log) → IsFound (λ setup. HoldsAt m setup holds seen after) made
  held-on made view holds seen log after is h w later all held =
      subst (λ (l : List (Event V)). IsFound (λ setup. HoldsAt m setup holds seen l) made) (sym all)
      (subst (IsFound (λ setup. HoldsAt m setup holds seen log)) (sym is) (record {
        later = later;
        history = whole-history view log h w;
        held = held;
      }))

  -- what is cut off is the last part of the log
  pub cut-on : (made : Option (Setup S)) (old : View S V) (volume : VolumeView V) (seen log after : List (Event V)) → made ≡ Some old.setup → Headline m old → IsWholeLog m old log
      → IsPrefix seen log → after ≡ log → volume ≡ cut_off old → IsFound (λ setup. IsCutOff m setup volume seen after) made
  cut-on made old volume seen log after is h w later all off =
      subst (λ (l : List (Event V)). IsFound (λ setup. IsCutOff m setup volume seen l) made) (sym all)
      (subst (λ (v : VolumeView V). IsFound (λ setup. IsCutOff m setup v seen log) made) (sym off)
      (subst (IsFound (λ setup. IsCutOff m setup (cut_off old) seen log)) (sym is) (record {
        later = later;
        history = whole-history old log h w;
        part = (joined w.0, sym w.2, ends-at old.setup.first_place w.0 old.base.place w.1.run_on);
      })))

  goes-on : (old new : View S V) (own : Event V) (more : List (Event V)) (a : IsProtectedAction m old new own) → old.events ++ more ≡ new.events → more ≡ own ∷ a.inner
  goes-on old new own more a is = append_cancel_left old.events more (own ∷ a.inner) (is ∙ a.events)

  -- a protected action's own event is in the log
  pub stands-on : (old new : View S V) (own : Event V) (seen log more after : List (Event V)) → IsProtectedAction m old new own → Headline m new → KeepsVolumes m old new → IsWholeLog m old log
      → IsPrefix seen log → old.events ++ more ≡ new.events → after ≡ log ++ more → Stands m old.setup own seen after
  stands-on old new own seen log more after a h k w later is all =
      subst (Stands m old.setup own seen) (sym all) (record {
        happens = record {
          here = log;
          later = later;
          within = (a.inner, append_assoc log (own ∷ []) a.inner ∙ ap (λ (l : List (Event V)). log ++ l) (sym (goes-on old new own more a is)));
        };
        history = subst (λ (made : Setup S). IsWholeHistory m made (log ++ more)) a.setup (whole-history new (log ++ more) h (whole-on old new log more k w is));
      })

  pub found-on : (made : Option (Setup S)) (old new : View S V) (own : Event V) (seen log more after : List (Event V)) → made ≡ Some old.setup → IsProtectedAction m old new own → Headline m new → KeepsVolumes m old new → IsWholeLog m old log
      → IsPrefix seen log → old.events ++ more ≡ new.events → after ≡ log ++ more → IsFound (λ setup. Stands m setup own seen after) made
  found-on made old new own seen log more after is a h k w later goes all =
      subst (IsFound (λ setup. Stands m setup own seen after)) (sym is) (stands-on old new own seen log more after a h k w later goes all)

  -- raising the clock returns the clock at the end of the log
  pub ticked-on : (made : Option (Setup S)) (old new : View S V) (t clock : ℕ) (seen log more after : List (Event V)) → made ≡ Some old.setup → IsProtectedAction m old new (Tick t) → Headline m new → KeepsVolumes m old new → IsWholeLog m old log
      → IsPrefix seen log → old.events ++ more ≡ new.events → after ≡ log ++ more → clock ≡ new.state.clock → IsFound (λ setup. IsTicked m setup t clock seen after) made
  ticked-on made old new t clock seen log more after is a h k w later goes all at =
      let leads : state_after m old.setup after ≡ new.state = ap (state_after m old.setup) all ∙ (ap (λ (made : Setup S). state_after m made (log ++ more)) (sym a.setup) ∙ whole-leads new (log ++ more) h (whole-on old new log more k w goes)) in
      subst (IsFound (λ setup. IsTicked m setup t clock seen after)) (sym is) (record {
        ticked = stands-on old new (Tick t) seen log more after a h k w later goes all;
        clock_is = at ∙ ap (λ (s : ObjectState S V). s.clock) (sym leads);
      })

  -- a call that is found among the ended ones has the same end by `end_of`
  pub ends-on : (end_of : List (Event V) → ℕ → Option (End V)) (view : View S V) (number : ℕ) (end : End V) (log after : List (Event V)) → end_of ≡ end_in m view.setup → Headline m view → IsWholeLog m view log
      → after ≡ log → answer_of view.state.ended number ≡ Some end → end_of after number ≡ Some end
  ends-on end_of view number end log after is h w all answer =
      ap (λ (f : List (Event V) → ℕ → Option (End V)). f after number) is
      ∙ (ap (λ (l : List (Event V)). end_in m view.setup l number) all
      ∙ (ap (λ (s : ObjectState S V). answer_of s.ended number) (whole-leads view log h w) ∙ answer))

  -- a call that is found among the ended ones has ended in the log
  pub ended-on : (made : Option (Setup S)) (view : View S V) (number : ℕ) (end : End V) (seen log after : List (Event V)) → made ≡ Some view.setup → Headline m view → IsWholeLog m view log
      → IsPrefix seen log → after ≡ log → answer_of view.state.ended number ≡ Some end → IsFound (λ setup. HasEnded m setup number end seen after) made
  ended-on made view number end seen log after is h w later all answer =
      subst (λ (l : List (Event V)). IsFound (λ setup. HasEnded m setup number end seen l) made) (sym all)
      (subst (IsFound (λ setup. HasEnded m setup number end seen log)) (sym is) (record {
        later = later;
        history = whole-history view log h w;
        ended = subst (λ (s : ObjectState S V). answer_of s.ended number ≡ Some end) (sym (whole-leads view log h w)) answer;
      }))

  -- what a function gives now it gives at the end of the log
  pub read-on : (made : Option (Setup S)) (view : View S V) (op : ℕ) (value : V) (reply : Result V ℕ) (seen log after : List (Event V)) → made ≡ Some view.setup → Headline m view → IsWholeLog m view log
      → IsPrefix seen log → after ≡ log → op < m.functions view.state.unit → reply ≡ m.function view.state.unit op value (counts_in m view.state)
      → IsFound (λ setup. IsFunctionAt m setup op value reply seen after) made
  read-on made view op value reply seen log after is h w later all has at =
      held-on made view (λ v. (op < m.functions v.state.unit) × (reply ≡ m.function v.state.unit op value (counts_in m v.state))) seen log after is h w later all
      (subst (λ (s : ObjectState S V). (op < m.functions s.unit) × (reply ≡ m.function s.unit op value (counts_in m s))) (sym (whole-leads view log h w)) (has, at))

  -- as many calls are queued at the end of the log as are queued now
  pub count-on : (made : Option (Setup S)) (view : View S V) (entry count : ℕ) (seen log after : List (Event V)) → made ≡ Some view.setup → Headline m view → IsWholeLog m view log
      → IsPrefix seen log → after ≡ log → count ≡ slice_index (counts_in m view.state) entry → IsFound (λ setup. IsCountAt m setup entry count seen after) made
  count-on made view entry count seen log after is h w later all at =
      held-on made view (λ v. count ≡ slice_index (counts_in m v.state) entry) seen log after is h w later all
      (subst (λ (s : ObjectState S V). count ≡ slice_index (counts_in m s) entry) (sym (whole-leads view log h w)) at)

  -- an attempt to cancel a waiting call adds its event, or leaves the history as it is
  by_marks : (old new : View S V) (n : ℕ) (x : Call V) (log more : List (Event V)) (without_abort aborted : Bool) → x.without_abort ≡ without_abort → x.aborted ≡ aborted → IsAttemptOnCall m old new n x → old.events ++ more ≡ new.events
      → IsPrefix (if without_abort && aborted then log else log ++ Cancel n ∷ []) (log ++ more)
  by_marks old new n x log more false aborted s a is goes =
      let p = is.cancelled s in
      (p.inner, append_assoc log (Cancel n ∷ []) p.inner ∙ ap (λ (l : List (Event V)). log ++ l) (sym (goes-on old new (Cancel n) more p goes)))
  by_marks old new n x log more true false s a is goes =
      let p = (is.marked s a).0 in
      (p.inner, append_assoc log (Cancel n ∷ []) p.inner ∙ ap (λ (l : List (Event V)). log ++ l) (sym (goes-on old new (Cancel n) more p goes)))
  by_marks old new n x log more true true s a is goes = (more, refl)

  keeps_marks : (old new : View S V) (n : ℕ) (x : Call V) (without_abort aborted : Bool) → x.without_abort ≡ without_abort → x.aborted ≡ aborted → IsAttemptOnCall m old new n x → IsPrefix old.events new.events × (new.setup ≡ old.setup)
  keeps_marks old new n x false aborted s a is = let p = is.cancelled s in ((Cancel n ∷ p.inner, sym p.events), p.setup)
  keeps_marks old new n x true false s a is = let p = (is.marked s a).0 in ((Cancel n ∷ p.inner, sym p.events), p.setup)
  keeps_marks old new n x true true s a is = let k = is.kept s a in (([], append-nil old.events ∙ sym (ap (λ (v : View S V). v.events) k)), ap (λ (v : View S V). v.setup) k)

  by_call : (old new : View S V) (n : ℕ) (o : Option (Call V)) → IsFound (IsAttemptOnCall m old new n) o → IsPrefix old.events new.events × (new.setup ≡ old.setup)
  by_call old new n None is = absurd is
  by_call old new n (Some x) is = keeps_marks old new n x x.without_abort x.aborted refl refl is

  -- the history goes on
  pub follows : (old new : View S V) (n : ℕ) → IsAttemptOf m old new n → IsPrefix old.events new.events × (new.setup ≡ old.setup)
  follows old new n is = by_call old new n (find (has_number n) old.state.waiting) is

  attempt-of : (old new : View S V) (n : ℕ) (aborted : Attempt) (log more : List (Event V)) (o : Option (Call V)) → IsFound (IsAttemptOnCall m old new n) o → aborted ≡ (if is_without_abort o then Kept else Cancelled) → old.events ++ more ≡ new.events
      → IsFound (λ x. IsPrefix (attempted n log x) (log ++ more) × (aborted ≡ (if x.without_abort then Kept else Cancelled))) o
  attempt-of old new n aborted log more None is answer goes = absurd is
  attempt-of old new n aborted log more (Some x) is answer goes = (by_marks old new n x log more x.without_abort x.aborted refl refl is goes, answer)

  attempt-on : (old new : View S V) (seat : ℕ) (aborted : Attempt) (log more : List (Event V)) (o : Option (Call V))
      → IsFound (λ x. (aborted ≡ attempt_answer old x.number) × IsAttemptOf m old new x.number) o → old.events ++ more ≡ new.events
      → IsFound (λ x. IsAttempt x.number aborted log old.state (log ++ more)) o
  attempt-on old new seat aborted log more None is goes = absurd is
  attempt-on old new seat aborted log more (Some x) is goes = attempt-of old new x.number aborted log more (find (has_number x.number) old.state.waiting) is.1 is.0 goes

  kept-setup : (old new : View S V) (aborted : Attempt) (o : Option (Call V)) → IsFound (λ x. (aborted ≡ attempt_answer old x.number) × IsAttemptOf m old new x.number) o → IsPrefix old.events new.events × (new.setup ≡ old.setup)
  kept-setup old new aborted None is = absurd is
  kept-setup old new aborted (Some x) is = follows old new x.number is.1

  -- what was done with the call of this number was done with the call that was found
  pub found-number : (old new : View S V) (n : ℕ) (aborted : Attempt) (o : Option (Call V)) → Some n ≡ option_map (λ x. x.number) o → aborted ≡ attempt_answer old n → IsAttemptOf m old new n
      → IsFound (λ x. (aborted ≡ attempt_answer old x.number) × IsAttemptOf m old new x.number) o
  found-number old new n aborted None is answer action = absurd cc
  found-number old new n aborted (Some x) is answer action =
      let same : n ≡ x.number = cc in
      subst (λ (k : ℕ). (aborted ≡ attempt_answer old k) × IsAttemptOf m old new k) same (answer, action)

  -- an attempt to cancel the seat's earliest queued call returns what the log says of that moment
  pub aborted-on : (made : Option (Setup S)) (old new : View S V) (seat : ℕ) (aborted : Attempt) (seen log more after : List (Event V)) → made ≡ Some old.setup
      → IsFound (λ x. (aborted ≡ attempt_answer old x.number) × IsAttemptOf m old new x.number) (find (is_of seat) old.state.waiting)
      → Headline m old → Headline m new → KeepsVolumes m old new → IsWholeLog m old log
      → IsPrefix seen log → old.events ++ more ≡ new.events → after ≡ log ++ more → IsFound (λ setup. IsAttempted m setup seat aborted seen after) made
  aborted-on made old new seat aborted seen log more after is found h h' k w later goes all =
      let leads = sym (whole-leads old log h w) in
      let same = (kept-setup old new aborted (find (is_of seat) old.state.waiting) found).1 in
      subst (λ (l : List (Event V)). IsFound (λ setup. IsAttempted m setup seat aborted seen l) made) (sym all)
      (subst (IsFound (λ setup. IsAttempted m setup seat aborted seen (log ++ more))) (sym is) (record {
        here = log;
        later = later;
        moment = whole-history old log h w;
        history = subst (λ (setup : Setup S). IsWholeHistory m setup (log ++ more)) same (whole-history new (log ++ more) h' (whole-on old new log more k w goes));
        answer = subst (λ (s : ObjectState S V). IsFound (λ x. IsAttempt x.number aborted log s (log ++ more)) (find (is_of seat) s.waiting)) leads
            (attempt-on old new seat aborted log more (find (is_of seat) old.state.waiting) found goes);
      }))

-- the end that is found by a call's ticket is the call's answer
pub answered : {V : Type 0} (live : Bool) (ended : Option (Ended V)) (waiting : Option (Call V)) (end : End V)
    → end_at (if live then status_by ended waiting else Unknown) ≡ Some end → option_map (λ x. x.end) ended ≡ Some end
answered true None None end is = absurd cc
answered true None (Some w) end is = absurd cc
answered true (Some x) w end is = is
answered false x w end is = absurd cc

-- a call that was issued and has ended is answered
pub answers : {S V : Type 0} (m : Meaning S V) (made : Option (Setup S)) (number seat entry : ℕ) (value : V) (deadline : Deadline) (end : End V) (before mid after : List (Event V))
    → IsFound (λ setup. Stands m setup (Issue number seat entry value deadline) before mid) made
    → IsFound (λ setup. HasEnded m setup number end mid after) made
    → IsFound (λ setup. IsAnswered m setup seat entry value deadline end before after) made
answers m None number seat entry value deadline end before mid after s e = absurd s
answers m (Some setup) number seat entry value deadline end before mid after s e = record {
  number = number;
  issued = record { happens = further (Issue number seat entry value deadline) before mid after s.happens e.later; history = e.history };
  ended = e.ended;
}

-- and so is the pending call of a pass
pub answers-pending : {S V : Type 0} (m : Meaning S V) (made : Option (Setup S)) (p q : PassView V) (asked : Asked V) (seat entry : ℕ) (value : V) (deadline : Deadline) (end : End V) (before after : List (Event V))
    → q ≡ p → p.pending ≡ Some asked
    → IsFound (λ setup. Stands m setup (Issue asked.ticket.number seat entry value deadline) before p.seen) made
    → IfSome q.pending (λ x. IsFound (λ setup. HasEnded m setup x.ticket.number end q.seen after) made)
    → IsFound (λ setup. IsAnswered m setup seat entry value deadline end before after) made
answers-pending {S} {V} m made p q asked seat entry value deadline end before after same is s e =
    let here : IfSome p.pending (λ x. IsFound (λ setup. HasEnded m setup x.ticket.number end p.seen after) made) = subst (λ (r : PassView V). IfSome r.pending (λ x. IsFound (λ setup. HasEnded m setup x.ticket.number end r.seen after) made)) same e in
    answers m made asked.ticket.number seat entry value deadline end before p.seen after s
    (subst (λ (o : Option (Asked V)). IfSome o (λ x. IsFound (λ setup. HasEnded m setup x.ticket.number end p.seen after) made)) is here)

pub none-listed : {X : Type 0} (xs : List X) → length xs ≡ 0 → xs ≡ []
none-listed [] h = refl
none-listed (x ∷ xs) h = absurd (omega arith)

-- of two lists, the shorter is a beginning of the longer
pub one-begins : {X : Type 0} (xs ys : List X) → (length xs ≤ length ys → IsPrefix xs ys) → (length ys ≤ length xs → IsPrefix ys xs) → IsPrefix xs ys ⊎ IsPrefix ys xs
one-begins xs ys f g = elim (cases_lt (length xs) (length ys)) [ inl l ↦ inl (f (omega (arith, l))) | inr l ↦ inr (g (omega (arith, l))) ]
