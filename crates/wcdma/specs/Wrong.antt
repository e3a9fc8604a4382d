-- A wrong build, stated as a definition: a walk that also passes the padding after its slice is full; and where it differs: at K 41 the sixth cell is padding, and
-- a walk from cell 0 with room for 5 stops before it, and one from that cell with no room stays. Both sides are computed.
use Rattle.std.specs.Prelude.{ℕ, zero, suc, ◌-◌, Bool, cond, ◌≡◌, refl}
use Rattle.laws.specs.Euclid.{gcd_in, gcd}
use Rattle.laws.specs.Keep.{steps}
use Rattle.laws.specs.Once.{inside}
use Rattle.laws.specs.Walk.{walk_cells}
use Rattle.wcdma_shape.specs.Rectangle.{rows, primes, first_prime, prime, cols_of, cols, cells}
use Rattle.wcdma_shape.specs.Powers.{power, first_one, generates, root_from, root}
use Rattle.wcdma_setup.specs.Numbers.{no_divisor, is_prime, passes, next_in, next_q, q_of}
use Rattle.wcdma_shape.specs.Orders.{row_orders, which_order, order_of, row_at}
use Rattle.wcdma.specs.Turbo.{entry, full, column, origin, address, turbo_rule}

-- the cells of a walk that also passes the padding after its slice is full
unfoldable pub eager_cells : (ℕ → ℕ) → (ℕ → Bool) → ℕ → ℕ → ℕ → ℕ
eager_cells f ok c zero room = 0
eager_cells f ok c (suc n) zero =
    let rest = suc (eager_cells f ok (suc c) n zero) in
    cond (ok (f c)) 0 rest
eager_cells f ok c (suc n) (suc room) =
    let more = suc (eager_cells f ok (suc c) n room) in
    let rest = suc (eager_cells f ok (suc c) n (suc room)) in
    cond (ok (f c)) more rest

pub five_cells : walk_cells 41 (turbo_rule 41) 0 5 ≡ 5
unfolding walk_cells steps rows primes first_prime prime cols_of cols cells power first_one generates root_from root gcd_in gcd no_divisor is_prime passes next_in next_q q_of row_orders which_order order_of row_at entry full column origin address
five_cells = refl

pub eager_six : eager_cells (address 41) (inside 41) 0 (cells 41) 5 ≡ 6
unfolding eager_cells rows primes first_prime prime cols_of cols cells power first_one generates root_from root gcd_in gcd no_divisor is_prime passes next_in next_q q_of row_orders which_order order_of row_at entry full column origin address
eager_six = refl

-- at that cell, with no room at all, the walk moves nothing, and this build moves on
pub none_moves : walk_cells 41 (turbo_rule 41) 5 0 ≡ 0
unfolding walk_cells steps rows primes first_prime prime cols_of cols cells power first_one generates root_from root gcd_in gcd no_divisor is_prime passes next_in next_q q_of row_orders which_order order_of row_at entry full column origin address
none_moves = refl

pub eager_moves : eager_cells (address 41) (inside 41) 5 (cells 41 - 5) 0 ≡ 1
unfolding eager_cells rows primes first_prime prime cols_of cols cells power first_one generates root_from root gcd_in gcd no_divisor is_prime passes next_in next_q q_of row_orders which_order order_of row_at entry full column origin address
eager_moves = refl
