-- What `head` of a version needs.
use Rattle.std.proofs.Common.{◌≡◌, ℕ, ◌-◌, ◌<◌, cond, true, refl, ap}
use Rattle.std.proofs.lemmas.Bool.{eq-eqb, lt-leb}
use Rattle.lazy_rec.specs.Kinds.{kind_number}
use Rattle.lazy_rec.specs.declared.events.Op.TheVariants.{Head}
use Rattle.lazy_rec.specs.History.{second_mark, event_name}
use Rattle.heap_store.specs.declared.versions.Version.{Version}
use Rattle.heap_store.specs.declared.jobs.Stage.TheVariants.{Start}
use Rattle.heap_store.specs.View.{View, IsLawfulView}
use Rattle.heap_store.specs.Jobs.{IsJob}
use Rattle.kind_table.specs.Kinds.{is_built}
use Rattle.kind_table.proofs.OpLaws.{built_belongs}
use Rattle.version_book.specs.Calls.{IsFound}
use Rattle.version_book.proofs.EventJobs.{version_is}

pub head_job : (v : View) → IsLawfulView v → (n : ℕ) (base : Version) → IsFound v.seen n base → is_built base.kind Head ≡ true → IsJob v.seen (record { op = Head; base = base; other = base; arg = 0; stage = Start })
head_job v law n base f built = record {
  op = built_belongs base.kind Head built refl;
  kinds = eq-eqb (kind_number base.kind) (kind_number base.kind) refl;
  base = version_is v.seen law.legal law.roots n base f.here;
  other = version_is v.seen law.legal law.roots n base f.here;
  has = refl;
  stage = tt;
}

-- a row's name is the number of its first version
pub own_name : (n : ℕ) → n < second_mark → event_name n ≡ n
own_name n low = ap (λ b. cond b (n - second_mark) n) (lt-leb second_mark n low)
