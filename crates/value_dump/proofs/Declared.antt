-- The declarations in the code are those that are defined.
use Rattle.std.proofs.Common.{◌≡◌, length, refl}
use Rattle.value_dump.specs.Header.{declarations}
use Rattle.value_dump.specs.Lines.{binary}
use Rattle.std.specs.Fmt.{digits}
use Rattle.value_dump.specs.declared.header.TheConstants.{DECLARATIONS}

pub declared : DECLARATIONS.now ≡ declarations
unfolding declarations digits binary
declared = refl

pub size : length declarations ≡ 1325
unfolding declarations digits binary
size = refl
