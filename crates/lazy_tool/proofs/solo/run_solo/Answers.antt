use Rattle.std.proofs.Common.{◌∙◌, sym}
use Rattle.lazy_tool.specs.declared.words.Command.TheVariants.{Plain}
use Rattle.lazy_tool.proofs.Readings.{read_once, same_nodes, not_refused, bound_kept, made_not_usage, made_not_refused}
use Rattle.lazy_tool.proofs.Replies.{answered_whole}
use Rattle.lazy_tool.proofs.Completeness.{complete}
use Rattle.lazy_tool.proofs.solo.run_solo.Goals as goal

pub returns-in-Some-Plain-clause-headline : goal.returns-in-Some-Plain-clause-headline
returns-in-Some-Plain-clause-headline g c nodes reads is =
    answered_whole c.in-Some-Plain.nodes _ _ c.serve.result.why c.serve.result.closed c.serve.ensures.answers (sym c.serve.ensures.status ∙ is)

pub returns-in-Some-Plain-clause-bounded : goal.returns-in-Some-Plain-clause-bounded
returns-in-Some-Plain-clause-bounded g c nodes book reads is =
    let plain = same_nodes _ _ (sym c.in-Some-Plain.field-0-is ∙ c.one_reading.ensures _ c.in-Some-Plain.field-0 (Plain nodes) c.in-Some-Plain.ensures reads) in
    bound_kept nodes _ _ c.serve.result.why c.serve.result.closed (rw plain at c.serve.ensures.answers) book is

pub returns-in-Some-Plain-clause-reads : goal.returns-in-Some-Plain-clause-reads
returns-in-Some-Plain-clause-reads g c events tells =
    let once = read_once c.one_reading-2.ensures.one c.one_reading-2.ensures.none in
    not_refused once c.in-Some-Plain.nodes _ _ c.serve.result.why c.serve.result.closed events tells c.serve.ensures.answers

pub returns-in-Some-Plain-clause-complete : goal.returns-in-Some-Plain-clause-complete
returns-in-Some-Plain-clause-complete g c nodes events reads tells enough calm =
    let plain = same_nodes _ _ (sym c.in-Some-Plain.field-0-is ∙ c.one_reading.ensures _ c.in-Some-Plain.field-0 (Plain nodes) c.in-Some-Plain.ensures reads) in
    let once = read_once c.one_reading-2.ensures.one c.one_reading-2.ensures.none in
    complete once nodes _ _ c.serve.result.why c.serve.result.closed c.serve.result.status events (rw plain at c.serve.ensures.answers) c.serve.ensures.status tells enough calm

pub returns-in-Some-Gen-clause-usage : goal.returns-in-Some-Gen-clause-usage
returns-in-Some-Gen-clause-usage g c =
    let answers = c.serve_gen.ensures.answers (g.S.Source.left c.args.source.now) (g.S.Source.faults c.args.source.now) in
    (λ is. absurd (made_not_usage c.in-Some-Gen.seed c.in-Some-Gen.events _ _ c.serve_gen.result.why c.serve_gen.result.closed answers is), λ none. absurd (none c.in-Some-Gen.field-0 c.in-Some-Gen.ensures))

pub returns-in-Some-Gen-clause-untouched : goal.returns-in-Some-Gen-clause-untouched
returns-in-Some-Gen-clause-untouched g c is =
    let answers = c.serve_gen.ensures.answers (g.S.Source.left c.args.source.now) (g.S.Source.faults c.args.source.now) in
    absurd (made_not_usage c.in-Some-Gen.seed c.in-Some-Gen.events _ _ c.serve_gen.result.why c.serve_gen.result.closed answers is)

pub returns-in-Some-Gen-clause-reads : goal.returns-in-Some-Gen-clause-reads
returns-in-Some-Gen-clause-reads g c events tells =
    let answers = c.serve_gen.ensures.answers (g.S.Source.left c.args.source.now) (g.S.Source.faults c.args.source.now) in
    made_not_refused c.in-Some-Gen.seed c.in-Some-Gen.events _ _ c.serve_gen.result.why c.serve_gen.result.closed answers

pub returns-in-None-clause-complete : goal.returns-in-None-clause-complete
returns-in-None-clause-complete g c nodes events reads tells enough calm = absurd (c.in-None.ensures (Plain nodes) reads)
