-- Values that are there.
use Rattle.std.proofs.Common.{◌≡◌, refl, Bool, true, false, Some, None, Option, option_map, if◌then◌else◌}
use Rattle.script_text.specs.Steps.{◌>>=◌}

-- what is made of a value that is there
pub bind_some : {A B : Type 0} (o : Option A) (f : A → Option B) (y : B) → (o >>= f) ≡ Some y → (x : A) × (o ≡ Some x)
    × (f x ≡ Some y)
bind_some None f y e = cc
bind_some (Some x) f y e = (x, refl, e)

pub some_of : {A : Type 0} (x y : A) → Some x ≡ Some y → x ≡ y
some_of x y e = cc

pub map_some : {A B : Type 0} (f : A → B) (o : Option A) (y : B) → option_map f o ≡ Some y → (x : A) × (o ≡ Some x)
    × (f x ≡ y)
map_some f None y e = cc
map_some f (Some x) y e = (x, refl, cc)

pub chosen_some : {A : Type 0} (v : Bool) (x y : A) → (if v then Some x else None) ≡ Some y → (v ≡ true) × (x ≡ y)
chosen_some true x y e = (refl, cc)
chosen_some false x y e = cc
