use Rattle.arith.proofs.TableLemmas.{tangents_rise}
use Rattle.arith.proofs.laws.tangents_rise.Goals as goal

pub returns : goal.returns
returns c = tangents_rise
