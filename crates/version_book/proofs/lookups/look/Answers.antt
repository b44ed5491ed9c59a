use Rattle.std.proofs.Common.{◌≡◌, ◌∙◌, sym, ap}
use Rattle.std.specs.Prelude.{is_some}
use Rattle.heap_store.specs.Rows.{row_at, word_at}
use Rattle.lazy_rec.specs.History.{event_name}
use Rattle.heap_store.proofs.Steps.{Quiet_trans}
use Rattle.heap_store.proofs.HistoryLaws.{AnsweredRow}
use Rattle.version_book.proofs.RowReads.{ended_by, replied, later, words_told, found_first, found_second, no_second, lost}
use Rattle.version_book.proofs.lookups.look.Goals as goal
use Rattle.version_book.proofs.lookups.look.Goals.{After-load_row}

-- the row ended with a reply, as the load after that of its end word sees it
answered : (g : _) (c : After-load_row g) → AnsweredRow (row_at (g.R.Heap.view c.load_row.new.self).seen) (event_name c.args.version)
answered g c =
    let v = g.R.Heap.view c.load_row-end.new.self in
    let one : word_at v.seen (event_name c.args.version) 5 ≡ 1 = ap (λ n. word_at v.seen n 5) (sym c.event_name-name.ensures) ∙ (sym c.load_row-end.ensures.value ∙ c.if-end-ne-REPLIED.false) in
    later c.load_row.ensures.quiet.grows (replied v.seen (event_name c.args.version) one (ended_by v (event_name c.args.version) (g.met.R.Heap.lawful c.load_row-end.new.self) (λ z. (let k = sym one ∙ z in cc))))

pub returns-then-end-ne-REPLIED-clause-look : goal.returns-then-end-ne-REPLIED-clause-look
returns-then-end-ne-REPLIED-clause-look g c =
    let v = g.R.Heap.view c.load_row-end.new.self in
    let read = rw c.event_name-name.ensures at c.load_row-end.ensures.value in
    lost v c.args.version (g.met.R.Heap.lawful c.load_row-end.new.self) (λ z. c.if-end-eq0.false (read ∙ z)) (λ z. c.if-end-ne-REPLIED.true (read ∙ z))

pub version_of-first-requires : goal.version_of-first-requires
version_of-first-requires g c =
    let w = (g.R.Heap.view c.load_row.new.self).seen in
    let told = (words_told w (event_name c.args.version) (answered g c)).0 in
    rw (c.load_row.ensures.value, c.event_name-name.ensures) (ap is_some told)

pub returns-then-not-is_second-clause-quiet : goal.returns-then-not-is_second-clause-quiet
returns-then-not-is_second-clause-quiet g c = Quiet_trans c.load_row-end.ensures.quiet c.load_row.ensures.quiet

pub returns-in-Some-clause-quiet : goal.returns-in-Some-clause-quiet
returns-in-Some-clause-quiet g c = Quiet_trans c.load_row-end.ensures.quiet (Quiet_trans c.load_row.ensures.quiet c.load_row-2.ensures.quiet)

pub returns-in-None-clause-quiet : goal.returns-in-None-clause-quiet
returns-in-None-clause-quiet g c = Quiet_trans c.load_row-end.ensures.quiet (Quiet_trans c.load_row.ensures.quiet c.load_row-2.ensures.quiet)

pub returns-then-not-is_second-clause-look : goal.returns-then-not-is_second-clause-look
returns-then-not-is_second-clause-look g c =
    let w = (g.R.Heap.view c.load_row.new.self).seen in
    let k = (goal.at.returns-then-not-is_second-clause-look g c).After-load_row in
    let read = rw c.event_name-name.ensures at c.load_row.ensures.value in
    let told = rw c.event_name-name.ensures at c.version_of-first.ensures in
    found_first w c.args.version c.load_row.result c.version_of-first.result (answered g k) read told (sym c.if-not-is_second.ensures)

pub returns-in-Some-clause-look : goal.returns-in-Some-clause-look
returns-in-Some-clause-look g c =
    let a = (g.R.Heap.view c.load_row.new.self).seen in
    let w = (g.R.Heap.view c.load_row-2.new.self).seen in
    let k = (goal.at.returns-in-Some-clause-look g c).After-load_row in
    let read = rw c.event_name-name.ensures at c.load_row.ensures.value in
    let told = rw c.event_name-name.ensures at c.version_of-first.ensures in
    let read6 = rw c.event_name-name.ensures at c.load_row-2.ensures.value in
    found_second a w c.args.version c.load_row.result c.load_row-2.result c.version_of-first.result (answered g k) c.load_row-2.ensures.quiet.grows read told read6 (sym c.if-not-is_second.ensures) c.in-Some.second (sym c.in-Some.is ∙ (rw c.event_name-name.ensures at c.second_version.ensures))

pub returns-in-None-clause-look : goal.returns-in-None-clause-look
returns-in-None-clause-look g c =
    let a = (g.R.Heap.view c.load_row.new.self).seen in
    let w = (g.R.Heap.view c.load_row-2.new.self).seen in
    let k = (goal.at.returns-in-None-clause-look g c).After-load_row in
    let read = rw c.event_name-name.ensures at c.load_row.ensures.value in
    let told = rw c.event_name-name.ensures at c.version_of-first.ensures in
    let read6 = rw c.event_name-name.ensures at c.load_row-2.ensures.value in
    no_second a w c.args.version c.load_row.result c.load_row-2.result c.version_of-first.result (answered g k) c.load_row-2.ensures.quiet.grows read told read6 (sym c.if-not-is_second.ensures) (sym c.in-None.is ∙ (rw c.event_name-name.ensures at c.second_version.ensures))
