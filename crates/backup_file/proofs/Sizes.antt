-- What a vector says of its length.
use Rattle.std.specs.Global.{Vec}
use Rattle.std.proofs.Common.{◌≡◌, ℕ, ◌<◌, ◌^◌, length, vec_len, arith}

pub vec_size : {A : Type 0} (v : Vec A) → vec_len v ≡ length v.items
vec_size v =
    let long = v.ok.0 in
    omega (arith, long)

pub vec_few : (v : Vec ℕ) → length v.items < 2 ^ 63
vec_few v =
    let long = v.ok.0 in
    let room = v.ok.1 in
    let small = v.small in
    omega (arith, long, room, small)
