use Rattle.std.proofs.Common.{◌≡◌, suc, ◌∷◌, ◌++◌, [], length, arith, ap, ◌∙◌, sym, List, length-append}
use Rattle.std.proofs.lemmas.Option.{slice_get-get_or}
use Rattle.plain_model.specs.declared.runs.ListPair.{ListPair}
use Rattle.plain_model.proofs.RunSteps.{base-in, other-in, lists-same, lists-start, second-made, lists-more, told-more}
use Rattle.plain_model.proofs.runs.replies_of.Goals as goal

pub answered-requires : goal.answered-requires
answered-requires c =
    let is = slice_get-get_or c.args.events.now c.loop-event.event-index _ c.loop-event-test.true in
    let count = ap length c.as_slice.ensures.value ∙ c.loop-event.invariant.count in
    record {
      base_in = base-in c.args.events.now c.requires c.loop-event.event-index _ is _ count;
      other_in = other-in c.args.events.now c.requires c.loop-event.event-index _ is _ count;
    }

pub list_of-base-requires : goal.list_of-base-requires
list_of-base-requires c =
    let is = slice_get-get_or c.args.events.now c.loop-event.event-index _ c.loop-event-test.true in
    let count = ap length c.as_slice-in-loop-event.ensures.value ∙ c.loop-event.invariant.count in
    base-in c.args.events.now c.requires c.loop-event.event-index _ is _ count

pub loop-event-init : goal.loop-event-init
loop-event-init c = record {
  lists = lists-start c.args.events.now c.new-versions.result.items c.push.new.self.items _ c.new-versions.ensures.items c.in_ok-push.ensures.items c.new.ensures.items c.new-2.ensures.items;
  count = ap length c.in_ok-push.ensures.items ∙ ap (λ (l : List ListPair). length (l ++ record { first = c.new.result; second = c.new-2.result } ∷ [])) c.new-versions.ensures.items;
  told = c.new-replies.ensures.items;
}

pub loop-event-preserved : goal.loop-event-preserved
loop-event-preserved c =
    let i = c.loop-event.event-index in
    let events = c.args.events.now in
    let is = slice_get-get_or events i _ c.loop-event-test.true in
    let read = c.as_slice.result.now in
    let so_far = lists-same events c.loop-event.versions.items read i c.as_slice.ensures.value c.loop-event.invariant.lists in
    let count : length read ≡ suc i = ap length c.as_slice.ensures.value ∙ c.loop-event.invariant.count in
    let made : ListPair = record { first = c.in_ok-outcome.outcome.list; second = c.in_ok-second.second } in
    let grown : c.push-in-loop-event.new.self.items ≡ read ++ made ∷ [] = c.in_ok-push-2.ensures.items ∙ ap (λ (vs : List ListPair). vs ++ made ∷ []) (sym c.as_slice.ensures.value) in
    let second = second-made events i _ read c.as_slice-in-loop-event.result.now c.list_of-base.result.now c.in_ok-second.second.items
    (c.as_slice-in-loop-event.ensures.value ∙ sym c.as_slice.ensures.value) c.list_of-base.ensures c.in_ok-second.ensures in
    record {
      lists = lists-more events c.requires i _ is read so_far c.push-in-loop-event.new.self.items made count grown c.in_ok-outcome.ensures.0 second;
      count = ap length grown ∙ omega (arith, length-append read (made ∷ []));
      told = told-more events c.requires i _ c.loop-event-test.true read so_far c.loop-event.replies.items c.push-in-loop-event-2.new.self.items c.in_ok-outcome.outcome.reply c.loop-event.invariant.told c.in_ok-push-3.ensures.items c.in_ok-outcome.ensures.1;
    }
