-- What events were charged: each by its row, and all that were run so far.
use Rattle.std.proofs.Common.{◌≡◌, ℕ, zero, suc, ◌+◌, ◌≤◌, Bool, true, false, Some, List, [], length, refl, sym, ap, ◌∙◌, arith}
use Rattle.std.specs.Prelude.{slice_index_or, option_and_then, Result}
use Rattle.std.proofs.lemmas.List.{take_all}
use Rattle.lazy_rec.specs.declared.events.Kind.{Kind}
use Rattle.lazy_rec.specs.declared.events.Op.TheVariants as ops
use Rattle.lazy_rec.specs.declared.events.Event.{Event}
use Rattle.lazy_rec.specs.Tests.{is_some_and}
use Rattle.lazy_rec.specs.Kinds.{uses_base, uses_other}
use Rattle.lazy_rec.specs.Due.{due}
use Rattle.heap_store.specs.declared.versions.Version.{Version}
use Rattle.heap_store.specs.World.{World}
use Rattle.heap_store.specs.Rows.{row_of, row_at, version_at}
use Rattle.heap_store.specs.LookedAt.{size_of}
use Rattle.heap_store.specs.Legal.{IsLegal}
use Rattle.heap_store.specs.Growth.{begun_of}
use Rattle.heap_store.specs.Budget.{of_row, due_at, dues, sum_rows}
use Rattle.heap_store.proofs.HistoryLaws.{version_same}
use Rattle.heap_store.proofs.RowBudget.{EndedStay, row_same, due_other, based_row, new_row, rows_more}
use Rattle.version_book.specs.declared.answers.Entry.{Entry}
use Rattle.version_book.specs.declared.answers.Refuse.{Refuse}
use Rattle.version_book.specs.Pass.{Pass}
use Rattle.version_book.specs.RowSteps.{ended_row, skipped_row}
use Rattle.version_book.specs.Calls.{Called, Ended, IsFound, ending_told}
use Rattle.version_book.specs.Solo.{AreBases, Ran, dues_to}

-- ---- sums over rows

pub all_dues : (w : World) (n : ℕ) → length w.rows ≡ n → dues_to w n ≡ dues w
all_dues w n e = ap (λ rows. sum_rows (λ i words. of_row due w (row_of i words)) 1 rows) (take_all n w.rows (omega (arith, e)))

dues_next : (w : World) (k : ℕ) → dues_to w (suc k) ≡ dues_to w k + due_at w (suc k)
dues_next w k =
    let g : ℕ → List ℕ → ℕ = λ i words. of_row due w (row_of i words) in
    let f : 1 + k ≡ suc k = omega arith in
    omega (arith, rows_more g (λ j. refl) 1 k w.rows, ap (λ z. g z (slice_index_or w.rows k [])) f)

pub none_charged : (w : World) → 0 ≡ dues_to w 0
none_charged w = refl

-- rows that stay are charged the same
dues_same : (a b : World) → IsLegal a → IsLegal b → EndedStay a b → (n : ℕ) → ((j : ℕ) → j ≤ n → row_at b j ≡ row_at a j) → dues_to a n ≡ dues_to b n
dues_same a b la lb stay zero same = refl
dues_same a b la lb stay (suc n) same =
    omega (arith, dues_next a n, dues_next b n, dues_same a b la lb stay n (λ j l. same j (omega (arith, l))), row_same a b la lb stay due (suc n) (ap (option_and_then begun_of) (sym (same (suc n) (omega arith)))))

-- one event more was charged what its row says
pub one_charged : (p q : Pass) (e : Event) (i total d : ℕ) → IsLegal p.view.seen → IsLegal q.view.seen → Ran p q e → p.view.named ≡ i → total ≡ dues_to p.view.seen i → d ≡ due_at q.view.seen q.view.named → total + d ≡ dues_to q.view.seen (i + 1)
one_charged p q e i total d la lb ran named t c =
    let name : q.view.named ≡ suc i = omega (arith, ran.named, named) in
    let next : i + 1 ≡ suc i = omega arith in
    omega (
      arith,
      t,
      c,
      ap (due_at q.view.seen) name,
      dues_next q.view.seen i,
      ap (dues_to q.view.seen) next,
      dues_same p.view.seen q.view.seen la lb ran.grows.ended i (λ j l. ran.others j (λ z. absurd (omega (arith, z, l, named)))),
    )

-- ---- what a call was charged

module _ (q r : Pass) (name : ℕ) (e : Event) (legal : IsLegal r.view.seen) (named : r.view.named ≡ name) where
  at-name : {d : ℕ} → d ≡ due_at r.view.seen name → d ≡ due_at r.view.seen r.view.named
  at-name h = h ∙ sym (ap (due_at r.view.seen) named)

  module _ (answer : Result Entry Refuse) (d : Ended q r name e answer) where
    pub charged_new : (kind : Kind) → e.op ≡ ops.New kind → due kind e.op 0 0 ≡ due_at r.view.seen r.view.named
    charged_new kind op = at-name (ap (λ o. due kind o 0 0) op ∙ sym (new_row due r.view.seen name (ended_row q.caller e (ending_told answer)) kind d.called.here refl op))

    pub charged_call : (base other : Version) → uses_base e.op ≡ true → AreBases q e base other → due base.kind e.op base.size other.size ≡ due_at r.view.seen r.view.named
    charged_call base other u b = at-name (by (uses_other e.op) refl ∙ sym based)
      where
        still : (n : ℕ) (v : Version) → IsFound q.view.seen n v → version_at (row_at r.view.seen) n ≡ Some v
        still n v f = sym (version_same (row_at q.view.seen) (row_at r.view.seen) d.called.grows.ended n (ap (is_some_and (λ (_ : Version). true)) f.here)) ∙ f.here

        based : due_at r.view.seen name ≡ due base.kind e.op base.size (size_of (version_at (row_at r.view.seen) e.other))
        based = based_row due r.view.seen legal name (ended_row q.caller e (ending_told answer)) d.called.here refl u base (still e.base base b.base_is)

        by : (o : Bool) → uses_other e.op ≡ o → due base.kind e.op base.size other.size ≡ due base.kind e.op base.size (size_of (version_at (row_at r.view.seen) e.other))
        by true o = ap (due base.kind e.op base.size) (sym (ap size_of (still e.other other (b.other_is o))))
        by false o = due_other base.kind e.op base.size other.size (size_of (version_at (row_at r.view.seen) e.other)) o

  pub charged_skip : Called q r name (skipped_row q.caller e) → 0 ≡ due_at r.view.seen r.view.named
  charged_skip d = at-name (sym (ap (of_row due r.view.seen) d.here))
