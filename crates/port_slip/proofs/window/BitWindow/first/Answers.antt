use Rattle.std.proofs.Common.{arith}
use Rattle.port_slip.proofs.Bits.{bits_length}
use Rattle.port_slip.proofs.Windows.{first_byte}
use Rattle.port_slip.proofs.window.BitWindow.first.Goals as goal

pub returns : goal.returns
returns c = λ s. first_byte c.args.self.held c.args.self.kept s
    (let l = c.args.self.sound.long in let b = bits_length c.args.self.held c.args.self.kept in omega (arith, l, b))
