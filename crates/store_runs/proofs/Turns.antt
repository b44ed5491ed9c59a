-- One turn at a suspension, from its prepare to its completion or to the claim that is given back.
use Rattle.std.proofs.Common.{◌≡◌, ℕ, ◌+◌, ◌-◌, ◌*◌, ◌<◌, ◌≤◌, Bool, true, cond, ◌&&◌, List, [], ◌∷◌, drop, map, refl, sym, ap, ◌∙◌, arith, subst, Some}
use Rattle.std.proofs.lemmas.Grind.{common_steps}
use Rattle.std.proofs.lemmas.Bool.{or_left, eq-eqb}
use Rattle.lazy_rec.specs.declared.places.Ref.{Ref}
use Rattle.lazy_rec.specs.declared.records.Rec.{Rec}
use Rattle.lazy_rec.specs.Named.{is_pending}
use Rattle.lazy_rec.specs.Units.{steps}
use Rattle.heap_store.specs.declared.claims.Full.{Full}
use Rattle.heap_store.specs.declared.claims.HeldClaim.{HeldClaim}
use Rattle.heap_store.specs.declared.claims.OpenRow.{OpenRow}
use Rattle.heap_store.specs.Span.{Span}
use Rattle.heap_store.specs.World.{World, recs, is_claimed_at}
use Rattle.heap_store.specs.Growth.{Grows}
use Rattle.heap_store.specs.Lawful.{IsLawful}
use Rattle.heap_store.specs.Hand.{Hand, contains, claim_places, holds_claim, fresh_claim, is_unbuilt, places_of_steps, credits_at, without, without_claim}
use Rattle.heap_store.specs.Budget.{is_funded, is_funded_at}
use Rattle.heap_store.specs.View.{View, About, Refusals, IsLawfulView, Quiet, IsWon, Reserved, Refused, Completed, GivenUp}
use Rattle.heap_store.specs.Jobs.{Readiness, IsWork, IsNeed, IsReady, IsBuildable, IsBuilt}
use Rattle.heap_store.proofs.GrowthLaws.{grows_trans, grows_refl, at_true, holds_up}
use Rattle.heap_store.proofs.LawfulLaws.{lawful_names}
use Rattle.heap_store.proofs.StageLaws.{most_in_steps}
use Rattle.heap_store.proofs.Steps.{reserved_held}
use Rattle.heap_store.proofs.UnitLaws.{funded_up}
use Rattle.force_engine.specs.Forced.{IsKept}
use Rattle.force_engine.proofs.Finish.{without-fresh}
use Rattle.force_engine.proofs.Growing.{IsWork-grows}
use Rattle.word_store.proofs.HandLaws.{claim_there}
use Rattle.store_runs.specs.Tries.{LeavesHand}

-- ---- what the hand has

-- what is paid for stays so
pub funded_grows : {a b : World} → IsLawful a → Grows a b → (p : ℕ) → is_funded_at a p ≡ true → is_funded_at b p ≡ true
funded_grows {a} {b} law g p = holds_up a b g p _ _ (λ r. funded_up a b (lawful_names law) g.records p r)

-- the steps of a published suspension stay
steps_grow : {a b : World} → Grows a b → (s : ℕ) (r : Rec) → recs a s ≡ Some r → places_of_steps (recs b) s ≡ places_of_steps (recs a) s
steps_grow g s r e = rw (e, g.records s r e) refl

-- the only claim is without itself none
only_claim : (cs : List HeldClaim) (s : Ref) → claim_places cs ≡ s.0 ∷ [] → drop 1 cs ≡ [] → without_claim s.0 cs ≡ []
only_claim [] s p d = absurd (cc)
only_claim (c ∷ cs) s p d =
    let same : c.place.0 ≡ s.0 = cc in
    let rest : cs ≡ [] = d in
    rw (same, rest) (grind (arith, common_steps))

no_rows : (rows : List OpenRow) → rows ≡ [] → map (λ (o : OpenRow). record o { refused = true }) rows ≡ []
no_rows rows e = rw e refl

-- ---- trying

pub leaves_quiet : {v w : View} → v.hand.claims ≡ [] → Quiet v w → LeavesHand v w
leaves_quiet {v} {w} idle q = record {
  grows = q.grows;
  about = q.about;
  claims = ap (λ (h : Hand). h.claims) q.hand ∙ idle;
  reserved = ap (λ (h : Hand). h.reserved) q.hand;
  names = ap (λ (h : Hand). h.names) q.hand;
  idle = λ rows. ap (λ (h : Hand). h.open_rows) q.hand ∙ rows;
  credits = (let e = ap (λ (h : Hand). h.credits) q.hand in omega (arith, e));
  allowance = (let e = ap (λ (h : Hand). h.allowance) q.hand in omega (arith, e));
}

pub leaves_refl : (v : View) → v.hand.claims ≡ [] → LeavesHand v v
leaves_refl v idle = record {
  grows = grows_refl v.seen;
  about = refl;
  claims = idle;
  reserved = refl;
  names = refl;
  idle = λ rows. rows;
  credits = omega arith;
  allowance = omega arith;
}

pub leaves_trans : {u v w : View} → LeavesHand u v → LeavesHand v w → LeavesHand u w
leaves_trans a b = record {
  grows = grows_trans a.grows b.grows;
  about = b.about ∙ a.about;
  claims = b.claims;
  reserved = b.reserved ∙ a.reserved;
  names = b.names ∙ a.names;
  idle = λ rows. b.idle (a.idle rows);
  credits = omega (arith, a.credits, b.credits);
  allowance = omega (arith, a.allowance, b.allowance);
}

-- a need that a prepare told is paid for, since the suspension is
pub need_funded : {does : Rec → Bool} {w : World} {s t : ℕ} → is_funded_at w s ≡ true → IsNeed does w s t → is_funded_at w t ≡ true
need_funded {does} {w} {s} {t} funded n =
    let own : is_funded w s n.rec ≡ true = rw (n.here) at funded in
    rw (n.there) (n.funded own)

-- a claim was won of a suspension whose needs are done: v is the view before, w after the prepare, and x after the claim
module _ (told : Readiness) (v w x : View) (s : Ref) (nodes : ℕ) (idle : v.hand.claims ≡ []) (q : Quiet v w) (ready : IsReady told w.seen s.0 nodes) (won : IsWon w x s) where
  none : w.hand.claims ≡ []
  none = ap (λ (h : Hand). h.claims) q.hand ∙ idle

  pub one : x.hand.claims ≡ fresh_claim s ∷ []
  one = ap (λ (h : Hand). h.claims) won.hand ∙ ap (λ cs. fresh_claim s ∷ cs) none

  pub claimed : IsLawfulView x → is_claimed_at x.seen s.0 ≡ true
  claimed law = claim_there x.seen x.hand law.hand s.0 (ap (λ cs. contains (claim_places cs) s.0) one ∙ or_left _ _ (eq-eqb s.0 s.0 refl))

  more : x.hand.allowance ≡ v.hand.allowance + places_of_steps (recs w.seen) s.0
  more = (let e = ap (λ (h : Hand). h.allowance) won.hand in let f = ap (λ (h : Hand). h.allowance) q.hand in omega (arith, e, f))

  few : nodes ≤ places_of_steps (recs w.seen) s.0
  few = (let e = ready.here in let m : nodes ≤ 8 * steps ready.rec = omega (arith, ready.most, most_in_steps ready.rec) in rw e m)

  pub may_reserve : nodes ≤ x.hand.allowance
  may_reserve = omega (arith, more, few)

  -- the reserve was refused, and the claim is given back
  module _ (y : View) (full : Full) (r : Refused x y nodes full) where
    still : y.hand.claims ≡ fresh_claim s ∷ []
    still = ap (λ (h : Hand). h.claims) r.hand ∙ one

    pub unbuilt : is_unbuilt y.hand s.0 ≡ true
    unbuilt = (let e = still in rw e (grind (arith, common_steps)))

    same_steps : places_of_steps (recs y.seen) s.0 ≡ places_of_steps (recs w.seen) s.0
    same_steps = steps_grow (grows_trans won.grows r.grows) s.0 ready.rec ready.here

    same_allowance : y.hand.allowance ≡ x.hand.allowance
    same_allowance = ap (λ (h : Hand). h.allowance) r.hand

    pub back : places_of_steps (recs y.seen) s.0 ≤ y.hand.allowance
    back = omega (arith, more, same_steps, same_allowance)

    module _ (z : View) (g : GivenUp y z s.0) where
      pub leaves_refused : LeavesHand v z
      leaves_refused = record {
        grows = grows_trans q.grows (grows_trans won.grows (grows_trans r.grows g.grows));
        about = g.about ∙ (r.about ∙ (won.about ∙ q.about));
        claims = ap (λ (h : Hand). h.claims) g.hand ∙ (ap (without_claim s.0) still ∙ only_claim (fresh_claim s ∷ []) s refl refl);
        reserved = ap (λ (h : Hand). h.reserved) g.hand ∙ (ap (λ (h : Hand). h.reserved) r.hand ∙ (ap (λ (h : Hand). h.reserved) won.hand ∙ ap (λ (h : Hand). h.reserved) q.hand));
        names = ap (λ (h : Hand). h.names) g.hand ∙ (ap (λ (h : Hand). h.names) r.hand ∙ (ap (λ (h : Hand). h.names) won.hand ∙ ap (λ (h : Hand). h.names) q.hand));
        idle = λ rows. ap (λ (h : Hand). h.open_rows) g.hand ∙ (ap (λ (h : Hand). h.open_rows) r.hand ∙ no_rows x.hand.open_rows (ap (λ (h : Hand). h.open_rows) won.hand ∙ (ap (λ (h : Hand). h.open_rows) q.hand ∙ rows)));
        credits = (let a = ap (λ (h : Hand). h.credits) g.hand in let b = ap (λ (h : Hand). h.credits) r.hand in let c = ap (λ (h : Hand). h.credits) won.hand in let d = ap (λ (h : Hand). h.credits) q.hand in omega (arith, a, b, c, d));
        allowance = (let a = ap (λ (h : Hand). h.allowance) g.hand in omega (arith, a, more, same_steps, same_allowance));
      }

      pub told_refused : (z.refusals.last ≡ full) × (z.about.capacity < full.drawn + full.wanted)
      told_refused = (
        ap (λ (f : Refusals). f.last) (g.refusals ∙ r.refusals),
        (let a = ap (λ (t : About). t.capacity) (g.about ∙ r.about) in omega (arith, a, r.no_room, r.wanted)),
      )

  -- the places were reserved
  module _ (y : View) (run : Span) (k : Reserved x y nodes run) (law : IsLawfulView w) where
    ours : y.hand.claims ≡ fresh_claim s ∷ []
    ours = ap (λ (h : Hand). h.claims) k.hand ∙ one

    pub buildable : IsBuildable told y s run
    buildable = record {
      base = w.seen;
      base_lawful = law.world;
      base_grows = grows_trans won.grows k.grows;
      nodes = nodes;
      ready = ready;
      above = λ p r h. k.fresh p r ((grows_trans won.grows k.grows).records p r h);
      size = k.size;
      held = reserved_held k;
      newest = (let e = ours in rw e refl);
    }

    -- the value was built
    module _ (z : View) (after : Span) (place taken : ℕ) (b : IsBuilt y z s.0 run after place taken) where
      places : claim_places z.hand.claims ≡ s.0 ∷ []
      places = b.filled.claims ∙ ap claim_places ours

      pub held : holds_claim z.hand s.0 ≡ true
      held = (let e = places in rw e (grind (arith, common_steps)))

      older : drop 1 z.hand.claims ≡ []
      older = b.filled.older ∙ ap (drop 1) ours

      -- and the suspension completed
      module _ (n : View) (m : Completed z n s.0 place taken) where
        filled : without run.next run.end y.hand.reserved ≡ x.hand.reserved
        filled = (let e = ap (λ (h : Hand). h.reserved) k.hand in let f = k.size in rw (e, ← f) (without-fresh run.next nodes x.hand.reserved k.unheld))

        allowed : n.hand.allowance ≡ x.hand.allowance - nodes
        allowed = ap (λ (h : Hand). h.allowance) m.hand ∙ (ap (λ (h : Hand). h.allowance) b.filled.hand ∙ ap (λ (h : Hand). h.allowance) k.hand)

        brought : z.hand.credits ≤ n.hand.credits
        brought = (let e : n.hand.credits ≡ z.hand.credits + cond (is_unbuilt z.hand s.0) (credits_at (recs z.seen) s.0) 0 = ap (λ (h : Hand). h.credits) m.hand in omega (arith, e))

        pub leaves_done : LeavesHand v n
        leaves_done = record {
          grows = grows_trans q.grows (grows_trans won.grows (grows_trans k.grows (grows_trans b.filled.grows m.grows)));
          about = m.about ∙ (b.filled.about ∙ (k.about ∙ (won.about ∙ q.about)));
          claims = ap (λ (h : Hand). h.claims) m.hand ∙ only_claim z.hand.claims s places older;
          reserved = ap (λ (h : Hand). h.reserved) m.hand ∙ (ap (λ (h : Hand). h.reserved) b.filled.hand ∙ (filled ∙ (ap (λ (h : Hand). h.reserved) won.hand ∙ ap (λ (h : Hand). h.reserved) q.hand)));
          names = ap (λ (h : Hand). h.names) m.hand ∙ (ap (λ (h : Hand). h.names) b.filled.hand ∙ (ap (λ (h : Hand). h.names) k.hand ∙ (ap (λ (h : Hand). h.names) won.hand ∙ ap (λ (h : Hand). h.names) q.hand)));
          idle = λ rows. ap (λ (h : Hand). h.open_rows) m.hand ∙ (ap (λ (h : Hand). h.open_rows) b.filled.hand ∙ (ap (λ (h : Hand). h.open_rows) k.hand ∙ (ap (λ (h : Hand). h.open_rows) won.hand ∙ (ap (λ (h : Hand). h.open_rows) q.hand ∙ rows))));
          credits = (let c = ap (λ (h : Hand). h.credits) k.hand in let d = ap (λ (h : Hand). h.credits) won.hand in let e = ap (λ (h : Hand). h.credits) q.hand in omega (arith, brought, b.credits, c, d, e));
          allowance = omega (arith, allowed, more, few);
        }

        pub kept_done : IsKept n.seen s.0 place
        kept_done = record { steps = taken; done = m.done }

-- a suspension that may be asked, by another name
pub asked : (does : Rec → Bool) (w : World) (at s : Ref) → at ≡ s → IsWork does w s.0 × (is_funded_at w s.0 ≡ true) → IsWork does w at.0 × (is_funded_at w at.0 ≡ true)
asked does w at s same may = subst (λ (q : Ref). IsWork does w q.0 × (is_funded_at w q.0 ≡ true)) (sym same) may

-- work that is paid for stays so
pub still_work : {a b : World} (does : Rec → Bool) → IsLawful a → Grows a b → (s : ℕ) → IsWork does a s → is_funded_at a s ≡ true → IsWork does b s × (is_funded_at b s ≡ true)
still_work does law g s work funded = (IsWork-grows g does s work, funded_grows law g s funded)

-- what was won may be given back
pub won_room : {v w x : View} (does : Rec → Bool) (s : Ref) → IsWork does v.seen s.0 → IsWon v w s → Quiet w x → places_of_steps (recs x.seen) s.0 ≤ x.hand.allowance
won_room {v} {w} {x} does s work won q =
    let r = at_true (λ r. is_pending r && does r) (recs v.seen s.0) work in
    let same = steps_grow (grows_trans won.grows q.grows) s.0 r.0 r.1 in
    let a = ap (λ (h : Hand). h.allowance) won.hand in
    let b = ap (λ (h : Hand). h.allowance) q.hand in
    omega (arith, same, a, b)
