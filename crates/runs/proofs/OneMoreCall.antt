-- What one more call adds to a run.
use Rattle.std.proofs.Common.{◌≡◌, ℕ, ◌+◌, ◌<◌, ◌≤◌, cond, List, [], ◌∷◌, ◌++◌, length, take, drop, refl, sym, ap, ◌∙◌, subst, subst₂, add_assoc, ⊎_elim, arith}
use Rattle.std.specs.Prelude.{Some, slice_get, slice_set, get_or, ◌≢◌}
use Rattle.std.specs.List.{count_by}
use borrow.Rule.Slice.PartMut.{put_mid, same_len_mid}
use Rattle.std.proofs.lemmas.Bool.{cases_lt}
use Rattle.std.proofs.lemmas.Option.{slice_get_within, get_or_from_slice_get, slice_get-get_or}
use Rattle.std.proofs.lemmas.List.{get_or_append_left, get_or-set_other, get_or-set_same, length-append, length-set, length-take, length-drop, take-append-le, take_all, take_more_set, take_more, drop-drop, drop-take, drop-set-lt}
use Rattle.std.proofs.lemmas.List.Sums.{sum_by-append, sum_by_more_le}
use Rattle.std.proofs.lemmas.Slice.{take-put_mid, take-put_mid_below, drop-put_mid}
use Rattle.std.proofs.Math.Seq.{get_or-append_seam, drop-append_seam, take-append_seam}
use Rattle.chart.specs.declared.leg.Leg.{Leg}
use Rattle.plan.specs.declared.filed.Filed.{Filed}
use Rattle.plan.specs.Ledgers.{Ledger}
use Rattle.plan.specs.Plans.{ledger_of}
use Rattle.runs.specs.declared.call.Call.{Call}
use Rattle.runs.specs.declared.reply.Reply.{Reply}
use Rattle.runs.specs.Histories.{ledger_after_call, ledger_after_calls, call_places, all_places}
use Rattle.runs.specs.RepliesTo.{IsReplyTo}
use Rattle.runs.specs.Law.{part_of, HasRoomFor, AreRepliesTo, IsLawfulRun, grants}
use Rattle.std.proofs.Math.Path.{transport}

-- a run has come as far as these calls: the law holds of them
pub record IsRunSoFar {C : Type 0} (fixes : C → ℕ) (legs : C → List Leg) (c : C) (l : Ledger) (calls : List Call) (replies replies' : List Reply) (memory memory' : List ℕ) (used : ℕ) (plan : Filed C) : Type 0 where
  pub replied : AreRepliesTo (fixes c) (legs c) l calls replies replies' memory memory'
  pub places : used ≡ all_places calls
  pub ledger : ledger_of legs plan ≡ ledger_after_calls (legs c) l calls
  pub counted : plan.revision ≡ l.revision + count_by grants (take (length calls) replies')
  pub chart : plan.chart ≡ c

-- the ledger after one call more
pub ledger_after_one_more : (own : List Leg) (l : Ledger) (calls : List Call) (call : Call) → ledger_after_calls own l (calls ++ call ∷ []) ≡ ledger_after_call own (ledger_after_calls own l calls) call
unfolding ledger_after_calls
ledger_after_one_more own l [] call = refl
ledger_after_one_more own l (x ∷ calls) call = ledger_after_one_more own (ledger_after_call own l x) calls call

-- and the places that it takes
pub places_of_one_more : (calls : List Call) (call : Call) → all_places (calls ++ call ∷ []) ≡ all_places calls + call_places call
places_of_one_more calls call = let e = sum_by-append call_places calls (call ∷ []) in omega (arith, e)

module _ {X : Type 0} where
  -- an element that a list with one more has before its end
  earlier : (xs : List X) (x y : X) (j : ℕ) → j < length xs → slice_get (xs ++ x ∷ []) j ≡ Some y → slice_get xs j ≡ Some y
  earlier xs x y j h e =
      slice_get-get_or xs j y h ∙ ap Some (sym (get_or_append_left xs (x ∷ []) y j h) ∙ get_or_from_slice_get (xs ++ x ∷ []) j y y e)

  -- and at its end
  last : (xs : List X) (x y : X) (j : ℕ) → j ≡ length xs → slice_get (xs ++ x ∷ []) j ≡ Some y → x ≡ y
  last xs x y j h e =
      sym (get_or-append_seam xs x [] y) ∙ ap (λ k. get_or (xs ++ x ∷ []) k y) (sym h) ∙ get_or_from_slice_get (xs ++ x ∷ []) j y y e

  -- an element that is not the one that was set, and the one that was
  unset : (xs : List X) (i : ℕ) (x y : X) (j : ℕ) → j ≢ i → slice_get (slice_set xs i x) j ≡ Some y → slice_get xs j ≡ Some y
  unset xs i x y j n e =
      let w = slice_get_within (slice_set xs i x) j y e in
      slice_get-get_or xs j y (omega (arith, w, length-set xs i x)) ∙ ap Some (sym (get_or-set_other xs i j x y n) ∙ get_or_from_slice_get (slice_set xs i x) j y y e)

  was_set : (xs : List X) (i : ℕ) (x y : X) (j : ℕ) → i < length xs → j ≡ i → slice_get (slice_set xs i x) j ≡ Some y → x ≡ y
  was_set xs i x y j h q e =
      sym (get_or-set_same xs i x y h) ∙ ap (λ k. get_or (slice_set xs i x) k y) (sym q) ∙ get_or_from_slice_get (slice_set xs i x) j y y e

  -- a part that ends before the one that was written
  part_below : (xs ys : List X) (a k b q : ℕ) → b + q ≤ a → a ≤ length xs → take q (drop b (put_mid a k xs ys)) ≡ take q (drop b xs)
  part_below xs ys a k b q h r =
      sym (drop-take b q (put_mid a k xs ys)) ∙ ap (drop b) (take-put_mid_below a k xs ys (b + q) h r) ∙ drop-take b q xs

-- the places of a call before the last lie before those of the last
places_below : (calls : List Call) (call : Call) (j : ℕ) → slice_get calls j ≡ Some call → all_places (take j calls) + call_places call ≤ all_places calls
places_below calls call j e =
    subst (λ c. all_places (take j calls) + call_places c ≤ all_places calls) (get_or_from_slice_get calls j call call e) (sum_by_more_le call_places calls j call (slice_get_within calls j call e))

module _ (n : ℕ) (own : List Leg) (l : Ledger) (calls : List Call) (call : Call) (replies replies' : List Reply) (memory memory' : List ℕ) (reply : Reply) (part : List ℕ)
    (so : AreRepliesTo n own l calls replies replies' memory memory')
    (room : length calls < length replies') (space : all_places calls + call_places call ≤ length memory')
    (is_reply : IsReplyTo n (ledger_after_calls own l calls) call reply (part_of calls call memory') part)
    (long : length part ≡ call_places call) where
  now : List ℕ
  now = put_mid (all_places calls) (call_places call) memory' part

  inside : all_places calls ≤ length memory'
  inside = omega (arith, space)

  -- the part that was written is the call's
  written : part_of calls call now ≡ part
  unfolding now
  written =
      let a = all_places calls in
      sym (drop-take a (call_places call) now)
      ∙ ap (drop a) (take-put_mid a (call_places call) memory' part (a + call_places call) (omega (arith, long)) inside)
      ∙ ap (λ k. drop k (take a memory' ++ part)) (let t = length-take a memory' in omega (arith, inside))
      ∙ drop-append_seam (take a memory') part

  -- the part that the call was given is as it was before the run
  given : part_of calls call memory' ≡ part_of calls call memory
  given = ap (take (call_places call)) so.later_memory

  reply_of_last : (c : Call) (r : Reply) → call ≡ c → reply ≡ r → IsReplyTo n (ledger_after_calls own l calls) c r (part_of calls c memory) (part_of calls c now)
  reply_of_last c r p q =
      subst₂ (λ c r. IsReplyTo n (ledger_after_calls own l calls) c r (part_of calls c memory) (part_of calls c now)) p q
      (subst₂ (λ x y. IsReplyTo n (ledger_after_calls own l calls) call reply x y) given (sym written) is_reply)

  reply_before_last : (j : ℕ) (c : Call) (r : Reply) → j < length calls → slice_get calls j ≡ Some c → slice_get replies' j ≡ Some r
      → IsReplyTo n (ledger_after_calls own l (take j calls)) c r (part_of (take j calls) c memory) (part_of (take j calls) c now)
  unfolding now
  reply_before_last j c r h p q =
      subst (λ x. IsReplyTo n (ledger_after_calls own l (take j calls)) c r (part_of (take j calls) c memory) x)
      (sym (part_below memory' part (all_places calls) (call_places call) (all_places (take j calls)) (call_places c) (places_below calls c j p) inside))
      (so.is_reply j c r p q)

  later_now : drop (all_places (calls ++ call ∷ [])) now ≡ drop (all_places (calls ++ call ∷ [])) memory
  unfolding now
  later_now =
      let a = all_places calls in
      let p = call_places call in
      ap (λ k. drop k now) (places_of_one_more calls call)
      ∙ drop-put_mid a p memory' part (a + p) (omega arith) inside long
      ∙ sym (drop-drop p a memory')
      ∙ ap (drop p) so.later_memory
      ∙ drop-drop p a memory
      ∙ ap (λ k. drop k memory) (sym (places_of_one_more calls call))

  -- the law holds with the call
  pub replies_with_one_more : AreRepliesTo n own l (calls ++ call ∷ []) replies (slice_set replies' (length calls) reply) memory (put_mid (all_places calls) (call_places call) memory' part)
  unfolding now
  replies_with_one_more =
      let one = length-append calls (call ∷ []) in
      record {
        is_reply = λ j c r p q.
            let w : j < length (calls ++ call ∷ []) = slice_get_within (calls ++ call ∷ []) j c p in
            ⊎_elim
            (λ (h : j < length calls).
            subst (λ cs. IsReplyTo n (ledger_after_calls own l cs) c r (part_of cs c memory) (part_of cs c now)) (sym (take-append-le j calls (call ∷ []) (omega arith)))
            (reply_before_last j c r h (earlier calls call c j h p) (unset replies' (length calls) reply r j (λ e. omega arith) q)))
            (λ (h : length calls ≤ j).
            let e : j ≡ length calls = omega (arith, one) in
            subst (λ cs. IsReplyTo n (ledger_after_calls own l cs) c r (part_of cs c memory) (part_of cs c now)) (sym (ap (λ k. take k (calls ++ call ∷ [])) e ∙ take-append_seam calls (call ∷ [])))
            (reply_of_last c r (last calls call c j e p) (was_set replies' (length calls) reply r j room e q)))
            (cases_lt j (length calls));
        as_many = length-set replies' (length calls) reply ∙ so.as_many;
        later_replies =
            let k : length (calls ++ call ∷ []) ≡ length calls + 1 = one in
            ap (λ m. drop m (slice_set replies' (length calls) reply)) k
            ∙ drop-set-lt (length calls + 1) replies' (length calls) reply (omega arith)
            ∙ sym (drop-drop 1 (length calls) replies')
            ∙ ap (drop 1) so.later_replies
            ∙ drop-drop 1 (length calls) replies
            ∙ ap (λ m. drop m replies) (sym k);
        as_much = same_len_mid (all_places calls) (call_places call) memory' part (let d = length-drop (all_places calls) memory' in let t = length-take (call_places call) (drop (all_places calls) memory') in omega (arith, long, space)) ∙ so.as_much;
        later_memory = later_now;
      }

-- the law holds of no calls at all
pub no_calls_so_far : {C : Type 0} (fixes : C → ℕ) (legs : C → List Leg) (c : C) (l : Ledger) (replies : List Reply) (memory : List ℕ) (plan : Filed C) → plan.chart ≡ c → ledger_of legs plan ≡ l → IsRunSoFar fixes legs c l [] replies replies memory memory 0 plan
unfolding ledger_after_calls
no_calls_so_far fixes legs c l replies memory plan p q = record {
  replied = record {
    is_reply = λ j x r e. absurd (omega (arith, slice_get_within [] j x e));
    as_many = refl;
    later_replies = refl;
    as_much = refl;
    later_memory = refl;
  };
  places = refl;
  ledger = q;
  counted = ap (λ (x : Ledger). x.revision) q ∙ omega arith;
  chart = p;
}

-- how many amendments are granted among one more reply
counted_more : (replies : List Reply) (i : ℕ) (r : Reply) → i < length replies → count_by grants (take (i + 1) (slice_set replies i r)) ≡ count_by grants (take i replies) + count_by grants (r ∷ [])
counted_more replies i r h = ap (count_by grants) (take_more_set replies i r h) ∙ sum_by-append (λ x. cond (grants x) 1 0) (take i replies) (r ∷ [])

-- One call was executed: it was given so many places of the memory, from the first that is free, it has its reply, and the plan
-- stands at the ledger that the call makes.
pub record CallMade {C : Type 0} (fixes : C → ℕ) (legs : C → List Leg) (call : Call) (reply : Reply) (memory part : List ℕ) (used places : ℕ) (plan plan' : Filed C) : Type 0 where
  pub space : used + places ≤ length memory
  pub is_reply : IsReplyTo (fixes plan.chart) (ledger_of legs plan) call reply (take places (drop used memory)) part
  pub long : length part ≡ places
  pub ledger : ledger_of legs plan' ≡ ledger_after_call (legs plan.chart) (ledger_of legs plan) call
  pub counted : plan'.revision ≡ plan.revision + count_by grants (reply ∷ [])
  pub chart : plan'.chart ≡ plan.chart

-- the law goes on by a call
one_more_call : {C : Type 0} (fixes : C → ℕ) (legs : C → List Leg) (c : C) (l : Ledger) (calls : List Call) (call : Call) (replies replies' : List Reply) (memory memory' : List ℕ) (reply : Reply) (part : List ℕ) (used : ℕ) (plan plan' : Filed C)
    → IsRunSoFar fixes legs c l calls replies replies' memory memory' used plan
    → length calls < length replies'
    → CallMade fixes legs call reply memory' part used (call_places call) plan plan'
    → IsRunSoFar fixes legs c l (calls ++ call ∷ []) replies (slice_set replies' (length calls) reply) memory (put_mid used (call_places call) memory' part) (used + call_places call) plan'
one_more_call fixes legs c l calls call replies replies' memory memory' reply part used plan plan' so room made =
    let one = length-append calls (call ∷ []) in
    record {
      replied =
          subst (λ a. AreRepliesTo (fixes c) (legs c) l (calls ++ call ∷ []) replies (slice_set replies' (length calls) reply) memory (put_mid a (call_places call) memory' part)) (sym so.places)
          (replies_with_one_more (fixes c) (legs c) l calls call replies replies' memory memory' reply part so.replied room (omega (arith, made.space, so.places))
          (subst₂ (λ x y. IsReplyTo (fixes x) y call reply (take (call_places call) (drop (all_places calls) memory')) part) so.chart so.ledger
          (subst (λ a. IsReplyTo (fixes plan.chart) (ledger_of legs plan) call reply (take (call_places call) (drop a memory')) part) so.places made.is_reply))
          made.long);
      places = ap (λ a. a + call_places call) so.places ∙ sym (places_of_one_more calls call);
      ledger = made.ledger ∙ (λ i. ledger_after_call (legs (so.chart i)) (so.ledger i) call) ∙ sym (ledger_after_one_more (legs c) l calls call);
      counted =
          made.counted ∙ ap (λ n. n + count_by grants (reply ∷ [])) so.counted
          ∙ add_assoc l.revision (count_by grants (take (length calls) replies')) (count_by grants (reply ∷ []))
          ∙ ap (λ n. l.revision + n) (sym (counted_more replies' (length calls) reply room))
          ∙ ap (λ k. l.revision + count_by grants (take k (slice_set replies' (length calls) reply))) (sym one);
      chart = made.chart ∙ so.chart;
    }

-- the same, as a loop over all calls has it: the number of the call, that of its reply and the next free place are told
pub one_more_call_at : {C : Type 0} (fixes : C → ℕ) (legs : C → List Leg) (c : C) (l : Ledger) (all : List Call) (i m j : ℕ) (d : Call) (replies replies' : List Reply) (memory memory' : List ℕ) (reply : Reply) (part : List ℕ) (used k next : ℕ) (plan plan' : Filed C)
    → m ≡ i → j ≡ i → k ≡ call_places (get_or all i d) → next ≡ used + k
    → IsRunSoFar fixes legs c l (take i all) replies replies' memory memory' used plan
    → i < length all → i < length replies'
    → CallMade fixes legs (get_or all m d) reply memory' part used k plan plan'
    → IsRunSoFar fixes legs c l (take (i + 1) all) replies (slice_set replies' j reply) memory (put_mid used k memory' part) next plan'
one_more_call_at fixes legs c l all i m j d replies replies' memory memory' reply part used k next plan plan' em ej ek en so h room made =
    let n : length (take i all) ≡ i = (let t = length-take i all in omega (arith, h)) in
    let o = one_more_call fixes legs c l (take i all) (get_or all i d) replies replies' memory memory' reply part used plan plan' so (omega (arith, room, n))
    (subst₂ (λ x y. CallMade fixes legs (get_or all x d) reply memory' part used y plan plan') em ek made) in
    transport (λ x. IsRunSoFar fixes legs c l (sym (take_more all i d h) x) replies (slice_set replies' ((n ∙ sym ej) x) reply) memory (put_mid used (sym ek x) memory' part) ((ap (λ y. used + y) (sym ek) ∙ sym en) x) plan') o

-- a call's part of the memory, and its length
pub part_fits : (all : List Call) (i : ℕ) (d : Call) (memory : List ℕ) (used p : ℕ) → i < length all → used ≡ all_places (take i all) → p ≡ call_places (get_or all i d) → all_places all ≤ length memory → used + p ≤ length memory
part_fits all i d memory used p h t e f = let m = sum_by_more_le call_places all i d h in omega (arith, m, t, e, f)

pub part_long : (memory part : List ℕ) (used p k : ℕ) → used + p ≤ length memory → k ≡ p → length part ≡ length (take k (drop used memory)) → length part ≡ k
part_long memory part used p k h e q = let d = length-drop used memory in let t = length-take k (drop used memory) in omega (arith, h, e, q, d, t)

-- the law of the calls that were executed, once all were
pub all_calls_so_far : {C : Type 0} (fixes : C → ℕ) (legs : C → List Leg) (c : C) (l : Ledger) (all : List Call) (i : ℕ) (replies replies' : List Reply) (memory memory' : List ℕ) (used : ℕ) (plan : Filed C)
    → length all ≤ i → HasRoomFor all (length replies) (length memory)
    → IsRunSoFar fixes legs c l (take i all) replies replies' memory memory' used plan
    → IsLawfulRun fixes legs c l all replies replies' memory memory' plan
all_calls_so_far fixes legs c l all i replies replies' memory memory' used plan h f so =
    let s = subst (λ cs. IsRunSoFar fixes legs c l cs replies replies' memory memory' used plan) (take_all i all h) so in
    record { fits = f; replied = s.replied; ledger = s.ledger; counted = s.counted; chart = s.chart }
