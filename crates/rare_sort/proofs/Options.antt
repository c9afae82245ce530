-- What an option was made of.
use Rattle.std.proofs.Common.{◌≡◌, Bool, true, false, refl}
use Rattle.std.specs.Prelude.{Option, Some, None, if◌then◌else◌}
use Rattle.std.specs.Option.{option_map, option_and_then}

pub if_some : {X : Type 0} (b : Bool) (x r : X) → (if b then (Some x) else None) ≡ Some r → (b ≡ true) × (x ≡ r)
if_some true x r e = (refl, cc)
if_some false x r e = cc

pub map_some : {X Y : Type 0} (f : X → Y) (o : Option X) (r : Y) → option_map f o ≡ Some r → (x : X) × (o ≡ Some x) × (f x ≡ r)
map_some f (Some x) r e = (x, refl, cc)
map_some f None r e = cc

pub then_some : {X Y : Type 0} (f : X → Option Y) (o : Option X) (r : Y) → option_and_then f o ≡ Some r → (x : X) × (o ≡ Some x) × (f x ≡ Some r)
then_some f (Some x) r e = (x, refl, e)
then_some f None r e = cc
