-- Runs that are filled part by part, and what is seen before a build.
use Rattle.std.proofs.Common.{◌≡◌, ℕ, ◌+◌, ◌<◌, ◌≤◌, eqb, refl, ap, ◌∙◌, arith}
use Rattle.std.proofs.lemmas.Bool.{ne_eqb, cond-false}
use Rattle.lazy_rec.specs.declared.places.Ref.{Ref}
use Rattle.heap_store.specs.Span.{Span}
use Rattle.heap_store.specs.World.{recs}
use Rattle.heap_store.specs.Hand.{Hand, IsInHand, without, brings}
use Rattle.heap_store.specs.View.{View, Quiet, purse}
use Rattle.heap_store.specs.Jobs.{Readiness, IsBuildable, IsBuilt, Filled}
use Rattle.heap_store.proofs.GrowthLaws.{grows_trans}
use Rattle.heap_store.proofs.Steps.{alone_of, words_trans, SameRows_trans, without-without, quiet_Filled, IsFilling, brought, filling_purse}

-- ---- one part after another

pub Filled_trans : {a b c : View} {from mid to : ℕ} → from ≤ mid → mid ≤ to → Filled a b from mid → Filled b c mid to → Filled a c from to
Filled_trans {a} {b} {c} {from} {mid} {to} low high f g = record {
  grows = grows_trans f.grows g.grows;
  words = words_trans a.hand b.hand a.seen b.seen c.seen (ap (λ (h : Hand). h.names) f.hand) f.words g.words;
  hand = g.hand ∙ together;
  claims = g.claims ∙ f.claims;
  older = g.older ∙ f.older;
  refusals = g.refusals ∙ f.refusals;
  about = g.about ∙ f.about;
  alone = λ e. (let k = f.alone e in let m = g.alone (alone_of a b f.about e) in (SameRows_trans k.0 m.0, m.1 ∙ k.1, omega (arith, k.2, m.2), λ z. m.3 z ∙ k.3 z));
}
  where
    together : (record b.hand { reserved = without mid to b.hand.reserved; claims = c.hand.claims; credits = c.hand.credits }) ≡ record a.hand { reserved = without from to a.hand.reserved; claims = c.hand.claims; credits = c.hand.credits }
    together = rw (f.hand, without-without from mid to a.hand.reserved low high) refl

-- a part of a build that fills some places of its run, and spends so much of what is at hand
pub filling_part : {a b c : View} {before run run' : Span} {spent : ℕ} (more : ℕ) → IsFilling a b before run spent → Filled b c run.next run'.next → run.next < run'.next → run'.end ≡ run.end → IsInHand c.hand run' → purse b ≤ c.hand.credits + more → IsFilling a c before run' (spent + more)
filling_part {a} {b} {c} {before} {run} {run'} {spent} more f g up same held k =
    let n = f.low in
    let all : brought a before run' ≡ brings (recs a.seen) a.hand.claims = cond-false (eqb before.next run'.next) 0 (brings (recs a.seen) a.hand.claims) (ne_eqb before.next run'.next (λ z. omega (arith, z, n, up))) in
    record {
      filled = Filled_trans n (omega (arith, up)) f.filled g;
      low = omega (arith, n, up);
      same_end = same ∙ f.same_end;
      held = held;
      fresh = λ z. absurd (omega (arith, z, n, up));
      credits = omega (arith, all, k, filling_purse f);
    }

-- ---- more of the world may be seen before a build

pub buildable_quiet : {told : Readiness} {v w : View} {s : Ref} {run : Span} → IsBuildable told v s run → Quiet v w → IsBuildable told w s run
buildable_quiet b q = record {
  base = b.base;
  base_lawful = b.base_lawful;
  base_grows = grows_trans b.base_grows q.grows;
  nodes = b.nodes;
  ready = b.ready;
  above = b.above;
  size = b.size;
  held = rw q.hand b.held;
  newest = rw q.hand b.newest;
}

pub quiet_built : {a b c : View} {s : ℕ} {before after : Span} {place steps : ℕ} → Quiet a b → IsBuilt b c s before after place steps → IsBuilt a c s before after place steps
quiet_built q k = record { filled = quiet_Filled q k.filled; spent = k.spent; value = k.value; small = k.small; credits = rw q.hand at k.credits }
