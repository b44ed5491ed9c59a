use Rattle.script_text.proofs.EightDigits.{eight_is}
use Rattle.script_text.proofs.front_digits.eight_digits.Goals as goal

pub returns : goal.returns
returns c ds eight is = eight_is ds c.args.digits eight is
