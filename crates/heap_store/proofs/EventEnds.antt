-- Ends of events: what a snoc makes of a plain list, and an event that makes nothing.
use Rattle.std.proofs.Common.{◌≡◌, ℕ, ◌<◌, leb, arith, subst, List, [], ◌∷◌, ◌++◌, length}
use Rattle.std.proofs.lemmas.List.{length-append}
use Rattle.std.proofs.lemmas.Bool.{le-leb, lt-leb, cond-true, cond-false}
use Rattle.lazy_rec.specs.declared.events.Op.TheVariants as ops
use Rattle.lazy_rec.specs.declared.events.Reply.{Reply}
use Rattle.lazy_rec.specs.declared.events.Reply.TheVariants as replies
use Rattle.lazy_rec.specs.Plain.{effect}
use Rattle.heap_store.specs.declared.jobs.EventJob.{EventJob}
use Rattle.heap_store.specs.declared.jobs.After.{After}
use Rattle.heap_store.specs.declared.jobs.After.TheVariants.{End}
use Rattle.heap_store.specs.Span.{Span}
use Rattle.heap_store.specs.View.{View, Quiet}
use Rattle.heap_store.specs.Jobs.{IsEventBuilt, IsEnd, Filled}
use Rattle.heap_store.proofs.Steps.{Filled-none, Filled-quiet}

-- ---- a snoc

pub snoc_longer : (v ws : List ℕ) (x : ℕ) → length v < 2147483647 → effect ops.Snoc v ws x ≡ (v ++ x ∷ [], replies.Ok)
snoc_longer v ws x h = cond-true (leb (length (v ++ x ∷ [])) 2147483647) (v ++ x ∷ [], replies.Ok) (v, replies.TooLong) (le-leb (length (v ++ x ∷ [])) 2147483647 (rw (length-append v (x ∷ [])) (omega (arith, h))))

pub snoc_full : (v ws : List ℕ) (x : ℕ) → length v ≡ 2147483647 → effect ops.Snoc v ws x ≡ (v, replies.TooLong)
snoc_full v ws x h = cond-false (leb (length (v ++ x ∷ [])) 2147483647) (v ++ x ∷ [], replies.Ok) (v, replies.TooLong) (lt-leb (length (v ++ x ∷ [])) 2147483647 (rw (length-append v (x ∷ [])) (omega (arith, h))))

-- ---- no change

-- an event that makes nothing
pub built_same : {a b : View} {job : EventJob} {run : Span} → Quiet a b → run.next ≡ run.end → (size : ℕ) (reply : Reply) → IsEnd b.seen job job.base.root.0 size reply → (result : After) → result ≡ End job.base.root size reply → IsEventBuilt a b job run run result
built_same {a} {b} {job} {run} q done size reply e result same =
    let f = Filled-quiet (Filled-none a run.next) q in
    rw same (record { filled = subst (λ n. Filled a b run.next n) done f; spent = done; made = e; credits = rw q.hand (omega arith) })
