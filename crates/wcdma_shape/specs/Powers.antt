-- The base sequence S and the primitive root v, 3GPP TS 25.212 4.2.3.2.3.2. These are definitions.
use Rattle.std.specs.Prelude.{ℕ, zero, suc, ◌*◌, ◌-◌, ◌%◌, Bool, cond, not, ◌&&◌, ◌||◌, eqb}

-- S: S(0) = 1, S(x) = v·S(x - 1) mod p
unfoldable pub power : ℕ → ℕ → ℕ → ℕ
power p v zero = 1
power p v (suc x) = v * power p v x % p

-- of the powers from s on, n are not 1, and the next is
unfoldable pub first_one : ℕ → ℕ → ℕ → ℕ → Bool
first_one p v s zero = eqb s 1
first_one p v s (suc n) =
    let later = first_one p v (v * s % p) n in
    not (eqb s 1) && later

-- v is a primitive root of p: of its powers from the first to the (p - 1)st only the last is 1
unfoldable pub generates : ℕ → ℕ → Bool
generates p v = first_one p v v (p - 2)

-- the first of the n numbers from v on that is one
unfoldable pub root_from : ℕ → ℕ → ℕ → ℕ
root_from p zero v = v
root_from p (suc n) v =
    let later = root_from p n (suc v) in
    cond (generates p v) v later

-- v: the least primitive root of p (table 2)
unfoldable pub root : ℕ → ℕ
root p = root_from p p 2

-- the numbers that v can be
abbrev pub is_table_root : ℕ → Bool
is_table_root v = eqb v 2 || (eqb v 3 || (eqb v 5 || (eqb v 6 || (eqb v 7 || eqb v 19))))
