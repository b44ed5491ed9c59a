use Rattle.std.proofs.Common.{sym, ap, ◌∙◌, arith, Some, true}
use Rattle.lazy_rec.specs.declared.records.Rec.{Rec}
use Rattle.heap_store.specs.World.{recs}
use Rattle.heap_store.proofs.GrowthLaws.{at_true}
use Rattle.heap_store.proofs.Steps.{Quiet_trans}
use Rattle.word_store.specs.Rule.{seen_by}
use Rattle.word_store.specs.Passes.{sight_of}
use Rattle.word_store.proofs.PassReads.{test_within, word_read, all_words}
use Rattle.word_store.proofs.PassViews.{looked_quiet}
use Rattle.word_store.proofs.heap.PassHeap.read.Goals as goal

pub look-first-requires : goal.look-first-requires
look-first-requires c = let p = c.args.self.now in omega (arith, test_within (sight_of p) c.args.r.0 (λ _. true) c.requires, p.sized.0, c.record_word-at.ensures)

pub look-second-requires : goal.look-second-requires
look-second-requires c = let p = c.args.self.now in let s = c.look-first.ensures.stays.layout in omega (arith, test_within (sight_of p) c.args.r.0 (λ _. true) c.requires, p.sized.0, c.record_word-at.ensures, ap (λ l. l.nodes) s, ap (λ l. l.rows) s)

pub look-third-requires : goal.look-third-requires
look-third-requires c = let p = c.args.self.now in let s = c.look-second.ensures.stays.layout ∙ c.look-first.ensures.stays.layout in omega (arith, test_within (sight_of p) c.args.r.0 (λ _. true) c.requires, p.sized.0, c.record_word-at.ensures, ap (λ l. l.nodes) s, ap (λ l. l.rows) s)

pub look-fourth-requires : goal.look-fourth-requires
look-fourth-requires c = let p = c.args.self.now in let s = c.look-third.ensures.stays.layout ∙ (c.look-second.ensures.stays.layout ∙ c.look-first.ensures.stays.layout) in omega (arith, test_within (sight_of p) c.args.r.0 (λ _. true) c.requires, p.sized.0, c.record_word-at.ensures, ap (λ l. l.nodes) s, ap (λ l. l.rows) s)

pub returns-clause-quiet : goal.returns-clause-quiet
returns-clause-quiet c =
    let p = c.args.self.now in let a = c.look-first.new.self in let b = c.look-second.new.self in let d = c.look-third.new.self in let e = c.look-fourth.new.self in
    Quiet_trans (Quiet_trans (looked_quiet p a _ c.look-first.result c.look-first.ensures.play c.look-first.ensures.stays) (looked_quiet a b _ c.look-second.result c.look-second.ensures.play c.look-second.ensures.stays))
    (Quiet_trans (looked_quiet b d _ c.look-third.result c.look-third.ensures.play c.look-third.ensures.stays) (looked_quiet d e _ c.look-fourth.result c.look-fourth.ensures.play c.look-fourth.ensures.stays))

pub returns-clause-rec : goal.returns-clause-rec
returns-clause-rec c =
    let p = c.args.self.now in let a = c.look-first.new.self in let b = c.look-second.new.self in let d = c.look-third.new.self in let f = c.look-fourth.new.self in
    let t = at_true (λ _. true) (recs (seen_by (sight_of p)) c.args.r.0) c.requires in
    let x : Rec = t.0 in
    let ea = c.look-first.ensures.play.goes.grows.records c.args.r.0 x t.1 in
    let eb = c.look-second.ensures.play.goes.grows.records c.args.r.0 x ea in
    let ed = c.look-third.ensures.play.goes.grows.records c.args.r.0 x eb in
    let ef = c.look-fourth.ensures.play.goes.grows.records c.args.r.0 x ed in
    let at = c.record_word-at.ensures in
    let w0 = c.look-first.ensures.play.found ∙ word_read (sight_of a) c.args.r.0 0 x ea a.sound _ (omega (arith, at)) (omega arith) in
    let w1 = c.look-second.ensures.play.found ∙ word_read (sight_of b) c.args.r.0 1 x eb b.sound _ (omega (arith, at)) (omega arith) in
    let w2 = c.look-third.ensures.play.found ∙ word_read (sight_of d) c.args.r.0 2 x ed d.sound _ (omega (arith, at)) (omega arith) in
    let w3 = c.look-fourth.ensures.play.found ∙ word_read (sight_of f) c.args.r.0 3 x ef f.sound _ (omega (arith, at)) (omega arith) in
    let range = (p.sound.well.world.each c.args.r.0 x t.1).range in
    t.1 ∙ ap Some (sym (c.decode.ensures.packed x range (all_words x _ _ _ _ w0 w1 w2 w3)))
