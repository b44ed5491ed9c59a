use Rattle.word_world.proofs.Opening.{fixed_set}
use Rattle.word_world.proofs.layout.Layout.first_words.Goals as goal

pub returns : goal.returns
returns c = fixed_set c.args.self.now.nodes c.args.self.now.rows c.in_ok-words.words.items c.word_count.result c.word_count.ensures (c.in_ok-words.ensures.items_if_clones_equal (λ y e. e))
