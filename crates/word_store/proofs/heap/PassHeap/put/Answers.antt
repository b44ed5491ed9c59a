use Rattle.std.proofs.Common.{◌≡◌, sym, ap, ◌∙◌, arith, subst, true}
use Rattle.std.specs.Prelude.{slice_index}
use Rattle.heap_store.specs.Hand.{Hand, contains}
use Rattle.heap_store.specs.View.{View, Fits, Put}
use Rattle.word_store.specs.Passes.{sight_of, view_of}
use Rattle.word_store.proofs.PassReads.{all_words}
use Rattle.word_store.proofs.PassViews.{filled_view, filled_first, filled_second, filled_third, published_put}
use Rattle.word_store.proofs.heap.PassHeap.put.Goals as goal

pub publish-requires-clause-held : goal.publish-requires-clause-held
publish-requires-clause-held c = let p = c.args.self.now in
    let h = ap (λ v. v.hand) c.fill-3.ensures.play.is ∙ (ap (λ v. v.hand) c.fill-2.ensures.play.is ∙ ap (λ v. v.hand) c.fill.ensures.play.is) in
    ap (λ (x : Hand). contains x.reserved c.step-place.result.0) h ∙ subst (λ n. contains (sight_of p).hand.reserved n ≡ true) (sym c.step-place.ensures.place) (c.requires.held.each c.args.run.now.next (omega arith) c.requires.left)

pub publish-requires-clause-words : goal.publish-requires-clause-words
publish-requires-clause-words c = let p = c.args.self.now in let a = c.fill.new.self in let b = c.fill-2.new.self in let d = c.fill-3.new.self in let w = c.pack-words.ensures in
    let held = subst (λ n. contains (sight_of p).hand.reserved n ≡ true) (sym c.step-place.ensures.place) (c.requires.held.each c.args.run.now.next (omega arith) c.requires.left) in
    let e1 = filled_first p a b d c.step-place.result.0 _ _ _ held c.fill.ensures.play c.fill-2.ensures.play c.fill-3.ensures.play in
    let e2 = filled_second p a b d c.step-place.result.0 _ _ _ held c.fill.ensures.play c.fill-2.ensures.play c.fill-3.ensures.play in
    let e3 = filled_third p a b d c.step-place.result.0 _ _ _ held c.fill.ensures.play c.fill-2.ensures.play c.fill-3.ensures.play in
    all_words c.args.rec _ _ _ _ (ap (λ ws. slice_index ws 0) w) (e1 ∙ ap (λ ws. slice_index ws 1) w) (e2 ∙ ap (λ ws. slice_index ws 2) w) (e3 ∙ ap (λ ws. slice_index ws 3) w)

pub publish-requires-clause-fits : goal.publish-requires-clause-fits
publish-requires-clause-fits c = let p = c.args.self.now in let a = c.fill.new.self in let b = c.fill-2.new.self in let d = c.fill-3.new.self in
    let held = subst (λ n. contains (sight_of p).hand.reserved n ≡ true) (sym c.step-place.ensures.place) (c.requires.held.each c.args.run.now.next (omega arith) c.requires.left) in
    let ha = ap (λ (x : Hand). contains x.reserved c.step-place.result.0) (ap (λ v. v.hand) c.fill.ensures.play.is) ∙ held in
    let hb = ap (λ (x : Hand). contains x.reserved c.step-place.result.0) (ap (λ v. v.hand) c.fill-2.ensures.play.is) ∙ ha in
    let same = filled_view b d c.step-place.result.0 3 _ hb (omega arith) (omega arith) c.fill-3.ensures.play c.fill-3.ensures.stays
    ∙ (filled_view a b c.step-place.result.0 2 _ ha (omega arith) (omega arith) c.fill-2.ensures.play c.fill-2.ensures.stays
    ∙ filled_view p a c.step-place.result.0 1 _ held (omega arith) (omega arith) c.fill.ensures.play c.fill.ensures.stays) in
    subst (λ (v : View). Fits v c.step-place.result.0 c.args.rec) (sym same) (subst (λ n. Fits (view_of p) n c.args.rec) (sym c.step-place.ensures.place) c.requires.fits)

pub returns-clause-put : goal.returns-clause-put
returns-clause-put c = let p = c.args.self.now in let a = c.fill.new.self in let b = c.fill-2.new.self in let d = c.fill-3.new.self in let q = c.publish.new.self in let w = c.pack-words.ensures in
    let held = subst (λ n. contains (sight_of p).hand.reserved n ≡ true) (sym c.step-place.ensures.place) (c.requires.held.each c.args.run.now.next (omega arith) c.requires.left) in
    let ha = ap (λ (x : Hand). contains x.reserved c.step-place.result.0) (ap (λ v. v.hand) c.fill.ensures.play.is) ∙ held in
    let hb = ap (λ (x : Hand). contains x.reserved c.step-place.result.0) (ap (λ v. v.hand) c.fill-2.ensures.play.is) ∙ ha in
    let hd = ap (λ (x : Hand). contains x.reserved c.step-place.result.0) (ap (λ v. v.hand) c.fill-3.ensures.play.is) ∙ hb in
    let same = filled_view b d c.step-place.result.0 3 _ hb (omega arith) (omega arith) c.fill-3.ensures.play c.fill-3.ensures.stays
    ∙ (filled_view a b c.step-place.result.0 2 _ ha (omega arith) (omega arith) c.fill-2.ensures.play c.fill-2.ensures.stays
    ∙ filled_view p a c.step-place.result.0 1 _ held (omega arith) (omega arith) c.fill.ensures.play c.fill.ensures.stays) in
    let e1 = filled_first p a b d c.step-place.result.0 _ _ _ held c.fill.ensures.play c.fill-2.ensures.play c.fill-3.ensures.play in
    let e2 = filled_second p a b d c.step-place.result.0 _ _ _ held c.fill.ensures.play c.fill-2.ensures.play c.fill-3.ensures.play in
    let e3 = filled_third p a b d c.step-place.result.0 _ _ _ held c.fill.ensures.play c.fill-2.ensures.play c.fill-3.ensures.play in
    let words = all_words c.args.rec _ _ _ _ (ap (λ ws. slice_index ws 0) w) (e1 ∙ ap (λ ws. slice_index ws 1) w) (e2 ∙ ap (λ ws. slice_index ws 2) w) (e3 ∙ ap (λ ws. slice_index ws 3) w) in
    let fits = subst (λ (v : View). Fits v c.step-place.result.0 c.args.rec) (sym same) (subst (λ n. Fits (view_of p) n c.args.rec) (sym c.step-place.ensures.place) c.requires.fits) in
    subst (λ n. Put (view_of p) (view_of q) n c.args.rec) c.step-place.ensures.place
    (subst (λ (v : View). Put v (view_of q) c.step-place.result.0 c.args.rec) same (published_put d q c.step-place.result.0 _ c.args.rec c.publish.ensures.play c.publish.ensures.stays hd fits words))
