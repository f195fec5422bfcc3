-- A law of multiplication by halves, for a machine that has no product of two whole words.
use Rattle.std.proofs.Common.{◌≡◌, ℕ, ◌+◌, ◌*◌, ◌/◌, ◌%◌, ◌^◌, sym, ap, ◌∙◌, div-add-mod', arith}

-- ---- two halves below 2^32
abbrev half : ℕ
half = 4294967296

-- ---- the product of two numbers from those of their halves
spread : (p q r s : ℕ) → (p * half + q) * (r * half + s) ≡ p * r * 18446744073709551616 + ((p * s + q * r) * half + q * s)
spread p q r s = omega arith

wraps : (h x y z : ℕ) → (x % half + y % half + z / half) % half * half + z % half ≡ (h * 18446744073709551616 + ((x + y) * half + z)) % 2 ^ 64
wraps h x y z = omega arith

pub product_is : (a b : ℕ) → (a / half * (b % half) % half + a % half * (b / half) % half + a % half * (b % half) / half) % half * half + a % half * (b % half) % half ≡ (a * b) % 2 ^ 64
product_is a b =
    let p = wraps (a / half * (b / half)) (a / half * (b % half)) (a % half * (b / half)) (a % half * (b % half)) in
    let q = spread (a / half) (a % half) (b / half) (b % half) in
    let r : (a / half * half + a % half) * (b / half * half + b % half) ≡ a * b = rw (div-add-mod' a half, div-add-mod' b half) in
    p ∙ ap (λ (n : ℕ). n % 2 ^ 64) (sym q ∙ r)
