-- What the record at a place says, and what a larger world shows of it.
use Rattle.std.proofs.Common.{◌≡◌, ℕ, refl, Bool, true, false, Some}
use Rattle.lazy_rec.specs.declared.records.Rec.{Rec}
use Rattle.lazy_rec.specs.Named.{Records, at_record}
use Rattle.heap_store.specs.World.{holds, is_published, Keeps}
use Rattle.heap_store.proofs.NameLaws.{IsPublished}
use Rattle.heap_store.proofs.GrowthLaws.{at_true}

-- the record at a place passes the tests that hold there
pub holds_at : (rs : Records) (p : ℕ) (test : Rec → Bool) (r : Rec) → holds rs p test ≡ true → rs p ≡ Some r → test r ≡ true
holds_at rs p test r h e = let k : at_record false test (Some r) ≡ true = rw e at h in k

pub holds_from : (rs : Records) (p : ℕ) (test : Rec → Bool) (r : Rec) → rs p ≡ Some r → test r ≡ true → holds rs p test ≡ true
holds_from rs p test r e t = rw e t

-- a place at which a test holds is published
pub place_there : (rs : Records) (p : ℕ) (test : Rec → Bool) → holds rs p test ≡ true → IsPublished rs p
place_there rs p test h = let k = at_true test (rs p) h in (k.0, k.1)

pub is_there : (rs : Records) (p : ℕ) → IsPublished rs p → is_published rs p ≡ true
is_there rs p is = rw is.1 refl

-- growth keeps the tests that hold
pub holds_kept : {a b : Records} → Keeps a b → (p : ℕ) (test : Rec → Bool) → holds a p test ≡ true → holds b p test ≡ true
holds_kept {a} {b} keeps p test h = let k = at_true test (a p) h in holds_from b p test k.0 (keeps p k.0 k.1) k.2

-- what a larger world shows at a published place stood there
pub rec_back : {a b : Records} → Keeps a b → (p : ℕ) (r : Rec) → IsPublished a p → b p ≡ Some r → a p ≡ Some r
rec_back keeps p r is e = let k = keeps p is.0 is.1 in cc
