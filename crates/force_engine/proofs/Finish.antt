-- A completion: reserve, build, complete.
use Rattle.std.proofs.Common.{subst, sym, ◌≡◌, ℕ, zero, suc, ◌+◌, ◌-◌, ◌*◌, ◌<◌, ◌≤◌, true, cond, List, [], ◌∷◌, ◌++◌, drop, length, refl, ap, ◌∙◌, arith}
use Rattle.std.specs.List.{list_all}
use Rattle.std.proofs.lemmas.Grind.{common_steps}
use Rattle.std.proofs.lemmas.Bool.{and_parts}
use Rattle.heap_store.specs.Span.{Span}
use Rattle.lazy_rec.specs.Named.{Records}
use Rattle.lazy_rec.specs.Units.{steps}
use Rattle.heap_store.specs.World.{World, recs, attempts_at, SameAttempts}
use Rattle.heap_store.specs.Hand.{Hand, contains, claim_places, holds_claim, fresh_claim, is_unbuilt, is_claim_well, places_from, places_of_steps, credits_at, without, hand_reserved, hand_completed}
use Rattle.heap_store.specs.View.{View, About, IsLawfulView, Reserved, Completed, unforced}
use Rattle.heap_store.specs.Jobs.{Readiness, IsReady, IsBuildable, IsBuilt}
use Rattle.lazy_rec.specs.declared.states.SuspState.TheVariants as states
use Rattle.heap_store.proofs.StageLaws.{most_in_steps}
use Rattle.heap_store.proofs.AttemptLaws.{changed_attempts}
use Rattle.heap_store.proofs.GrowthLaws.{grows_trans}
pub use Rattle.heap_store.proofs.Steps.{contains-append_right, contains-places_from}
use Rattle.heap_store.proofs.Steps.{SameRows_trans, alone_of, reserved_held}
use Rattle.force_engine.specs.declared.stack.Frame.{Frame}
use Rattle.force_engine.specs.Stacked.{claims_of, places_of, places_for, claimed_places, hand_with, IsStacked, Passed, work}
use Rattle.force_engine.specs.Forced.{IsKept}
use Rattle.force_engine.proofs.Growing.{HeightsRise-grows}
use Rattle.force_engine.proofs.Means.{places_cons, places_grow, claim_places-frames, claimed_frames, well_frames}
use Rattle.force_engine.proofs.Giving.{newest_of, without-newest}

-- ---- reserved places

without-places : (a n k : ℕ) → a ≤ n → (b : ℕ) → n + k ≤ b → without a b (places_from n k) ≡ []
without-places a n zero h b le = refl
without-places a n (suc k) h b le = let ih = without-places a (suc n) k (omega arith) b (omega arith) in grind (arith, common_steps, ih)

-- what was reserved last leaves the hand as it was once it is filled
pub without-fresh : (n k : ℕ) (xs : List ℕ) → ((p : ℕ) → contains xs p ≡ true → p < n) → without n (n + k) (xs ++ places_from n k) ≡ xs
without-fresh n k [] below = without-places n n k (omega arith) (n + k) (omega arith)
without-fresh n k (x ∷ xs) below = let ih = without-fresh n k xs in let here = below x in grind (arith, common_steps, ih, here, below)

-- ---- what the calls ask

steps_most : {told : Readiness} {w : World} {p nodes : ℕ} → IsReady told w p nodes → nodes ≤ places_of_steps (recs w) p
steps_most {told} {w} {p} {nodes} r = let e = r.here in let m : nodes ≤ 8 * steps r.rec = omega (arith, r.most, most_in_steps r.rec) in rw e m

pub buildable : {told : Readiness} {old mid : View} {nodes : ℕ} {run : Span} (newest : Frame) (frames : List Frame) → IsLawfulView old → IsStacked old (newest ∷ frames) → IsReady told old.seen newest.place.0 nodes → Reserved old mid nodes run → IsBuildable told mid newest.place run
buildable {told} {old} {mid} {nodes} {run} newest frames law s r k =
    let c : mid.hand.claims ≡ claims_of (newest ∷ frames) = ap (λ (h : Hand). h.claims) k.hand ∙ s.claims in
    record {
      base = old.seen;
      base_lawful = law.world;
      base_grows = k.grows;
      nodes = nodes;
      ready = r;
      above = λ q t h. k.fresh q t (k.grows.records q t h);
      size = k.size;
      held = reserved_held k;
      newest = rw c refl;
    }

-- the newest claim's steps allow its places
pub may_reserve : {told : Readiness} {v : View} {nodes : ℕ} (newest : Frame) (frames : List Frame) → IsStacked v (newest ∷ frames) → IsReady told v.seen newest.place.0 nodes → nodes ≤ v.hand.allowance
may_reserve {told} {v} newest frames s r = omega (arith, s.room, steps_most r, claimed_frames v (newest ∷ frames) s.claims, places_cons (recs v.seen) newest.place.0 (places_of frames))

-- the claims in hand at the end of a build
places_at_end : {mid built : View} {s place steps : ℕ} {run after : Span} (newest : Frame) (frames : List Frame) → mid.hand.claims ≡ claims_of (newest ∷ frames) → IsBuilt mid built s run after place steps → claim_places built.hand.claims ≡ places_of (newest ∷ frames)
places_at_end newest frames c b = b.filled.claims ∙ ap claim_places c ∙ claim_places-frames (newest ∷ frames)

pub held_at_end : {old mid built : View} {nodes s place steps : ℕ} {run after : Span} (newest : Frame) (frames : List Frame) → IsStacked old (newest ∷ frames) → Reserved old mid nodes run → IsBuilt mid built s run after place steps → holds_claim built.hand newest.place.0 ≡ true
held_at_end {old} {mid} newest frames s k b =
    let c : mid.hand.claims ≡ claims_of (newest ∷ frames) = ap (λ (h : Hand). h.claims) k.hand ∙ s.claims in
    let e = places_at_end newest frames c b in
    rw e (grind (arith, common_steps))

-- ---- the end

pub record Finished (old new : View) (frames : List Frame) (p place : ℕ) : Type 0 where
  pub kept : IsKept new.seen p place
  pub stacked : IsStacked new frames
  pub passed : Passed old new
  pub falls : work new < work old

-- what a completion leaves of the hand
whole : (old mid built new : Hand) (p : ℕ) (run : Span) (nodes : ℕ) (rs : Records) → mid ≡ hand_reserved old run.next nodes → built ≡ record mid { reserved = without run.next run.end mid.reserved; claims = built.claims; credits = built.credits } → new ≡ hand_completed rs built p
    → without run.next run.end (old.reserved ++ places_from run.next nodes) ≡ old.reserved → new ≡ hand_with old new
whole old mid built new p run nodes rs e f g kept =
    let r : new.reserved ≡ old.reserved = ap (λ (h : Hand). h.reserved) g ∙ (ap (λ (h : Hand). h.reserved) f ∙ (ap (λ (h : Hand). without run.next run.end h.reserved) e ∙ kept)) in
    let n : new.names ≡ old.names = ap (λ (h : Hand). h.names) g ∙ (ap (λ (h : Hand). h.names) f ∙ ap (λ (h : Hand). h.names) e) in
    let o : new.open_rows ≡ old.open_rows = ap (λ (h : Hand). h.open_rows) g ∙ (ap (λ (h : Hand). h.open_rows) f ∙ ap (λ (h : Hand). h.open_rows) e) in
    let v : new.vain ≡ old.vain = ap (λ (h : Hand). h.vain) g ∙ (ap (λ (h : Hand). h.vain) f ∙ ap (λ (h : Hand). h.vain) e) in
    let i : new.mine ≡ old.mine = ap (λ (h : Hand). h.mine) g ∙ (ap (λ (h : Hand). h.mine) f ∙ ap (λ (h : Hand). h.mine) e) in
    rw (← r, ← n, ← o, ← i, ← v) refl

pub finished : {told : Readiness} {old mid built new : View} {nodes place steps : ℕ} {run after : Span} (newest : Frame) (frames : List Frame) → IsLawfulView old → IsLawfulView mid → IsStacked old (newest ∷ frames) → IsReady told old.seen newest.place.0 nodes → Reserved old mid nodes run → IsBuilt mid built newest.place.0 run after place steps → Completed built new newest.place.0 place steps → Finished old new frames newest.place.0 place
finished {told} {old} {mid} {built} {new} {nodes} {place} {steps} {run} newest frames law law' s r k b m =
    let f = b.filled in
    let grows = grows_trans k.grows (grows_trans f.grows m.grows) in
    let about : new.about ≡ old.about = m.about ∙ (f.about ∙ k.about) in
    let alone_mid : mid.about.alone ≡ true = alone_of old mid k.about s.alone in
    let alone_built : built.about.alone ≡ true = alone_of mid built f.about alone_mid in
    let c : mid.hand.claims ≡ claims_of (newest ∷ frames) = ap (λ (h : Hand). h.claims) k.hand ∙ s.claims in
    let older : drop 1 built.hand.claims ≡ claims_of frames = f.older ∙ ap (drop 1) c in
    let one = newest_of newest frames law s.claims in
    let claims : new.hand.claims ≡ claims_of frames = ap (λ (h : Hand). h.claims) m.hand ∙ without-newest built.hand.claims newest frames (places_at_end newest frames c b) older one.other in
    let kept_places : without run.next run.end (old.hand.reserved ++ places_from run.next nodes) ≡ old.hand.reserved = rw (← k.size) (without-fresh run.next nodes old.hand.reserved k.unheld) in
    let new_hand : new.hand ≡ hand_with old.hand new.hand = whole old.hand mid.hand built.hand new.hand newest.place.0 run nodes (recs built.seen) k.hand f.hand m.hand kept_places in
    let a : new.hand.allowance ≡ old.hand.allowance - nodes = ap (λ (h : Hand). h.allowance) m.hand ∙ (ap (λ (h : Hand). h.allowance) f.hand ∙ ap (λ (h : Hand). h.allowance) k.hand) in
    let brought : built.hand.credits ≤ new.hand.credits = (let q : new.hand.credits ≡ built.hand.credits + cond (is_unbuilt built.hand newest.place.0) (credits_at (recs built.seen) newest.place.0) 0 = ap (λ (h : Hand). h.credits) m.hand in omega (arith, q)) in
    let same_credits : mid.hand.credits ≡ old.hand.credits = ap (λ (h : Hand). h.credits) k.hand in
    let all : claimed_places old ≡ places_of_steps (recs old.seen) newest.place.0 + places_for (recs old.seen) (places_of frames) = claimed_frames old (newest ∷ frames) s.claims ∙ places_cons (recs old.seen) newest.place.0 (places_of frames) in
    let rest : claimed_places new ≡ places_for (recs old.seen) (places_of frames) = claimed_frames new frames claims ∙ places_grow grows frames (and_parts (is_claim_well old.seen (fresh_claim newest.place)) (list_all (is_claim_well old.seen) (claims_of frames)) (well_frames (newest ∷ frames) law s.claims)).1 in
    let fewest = steps_most r in
    let d1 = k.alone s.alone in
    let d2 = f.alone alone_mid in
    let d3 = m.alone alone_built in
    let room : mid.drawn ≤ mid.about.capacity = law'.room alone_mid in
    let capacity : new.about.capacity ≡ old.about.capacity = ap (λ (t : About). t.capacity) about in
    let capacity' : mid.about.capacity ≡ old.about.capacity = ap (λ (t : About). t.capacity) k.about in
    let drawn : new.drawn ≡ old.drawn + nodes = d3.1 ∙ (d2.1 ∙ d1.1) in
    let u1 : unforced mid.seen ≡ unforced old.seen = ap unforced d1.0 in
    let fewer : unforced new.seen ≤ unforced old.seen + nodes = omega (arith, d2.2, d3.2, k.size) in
    let fits : old.drawn + nodes ≤ old.about.capacity = omega (arith, d1.1) in
    let one_less : suc (length new.hand.claims) ≡ length old.hand.claims = rw (claims, s.claims) refl in
    record {
      kept = record { steps = steps; done = m.done };
      stacked = record { alone = alone_of old new about s.alone; claims = claims; rises = HeightsRise-grows law.world grows frames s.rises.2; room = omega (arith, a, all, rest, fewest, s.room) };
      passed = record {
        grows = grows;
        hand = new_hand;
        means = record { credits = omega (arith, same_credits, b.credits, brought); allowance = omega (arith, a, all, rest, fewest, s.room) };
        refusals = m.refusals ∙ (f.refusals ∙ k.refusals);
        about = about;
        rows = SameRows_trans (record { rows = ap (λ (w : World). w.rows) d1.0; named = d1.2 }) (SameRows_trans d2.0 d3.0);
        attempts = λ z. (let t = m.shown alone_built in let last : SameAttempts built.seen new.seen = subst (SameAttempts built.seen) (sym t.3) (changed_attempts built.seen newest.place.0 t.0 (states.Done (record { 0 = place }) steps t.1) (states.Claimed t.1) t.2 refl) in last z ∙ (d2.3 z ∙ ap (λ w. attempts_at w z) d1.0));
      };
      falls = rw (capacity, drawn) (omega arith);
    }
