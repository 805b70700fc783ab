use Rattle.std.proofs.Common.{◌≡◌, ℕ, arith}

-- out of a clash of constructors anything follows
pub never : {B : Type 0} → ◌≡◌ {A = ℕ} 0 1 → B
never e = absurd (let n : ⊥ = omega arith in n)
