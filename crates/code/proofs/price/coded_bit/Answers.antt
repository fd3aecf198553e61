use Rattle.std.proofs.Common.{rules}
use Rattle.code.proofs.Picked.{coded_bit_is_the_parity}
use Rattle.code.proofs.price.coded_bit.Goals as goal

pub returns : goal.returns
returns c = record { value = search rules; parity = coded_bit_is_the_parity }
