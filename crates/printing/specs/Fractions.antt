-- The greatest number that divides both numbers of a fraction.
use Rattle.std.specs.Prelude.{◌≡◌, refl, ℕ, ◌+◌, ◌*◌, ◌-◌, ◌/◌, ◌%◌, ◌<◌, ◌≤◌}
use Rattle.std.proofs.Common.{sym, ◌∙◌, arith}
use Rattle.std.proofs.Math.Nat.{div-add-mod, mul-sub}

-- c goes into n without a rest.
pub record Divides (c n : ℕ) : Type 0 where
  pub times : ℕ
  pub is : n ≡ times * c

-- r divides both, and whatever divides both divides r. Every number divides 0 and 0: of these r is 1.
pub record Greatest (n d r : ℕ) : Type 0 where
  pub at_least : 1 ≤ r
  pub divides_n : Divides r n
  pub divides_d : Divides r d
  pub greatest : 1 ≤ n + d → (c : ℕ) → Divides c n → Divides c d → Divides c r
  pub of_zeros : n + d ≡ 0 → r ≡ 1

-- ---- Euclid: the same numbers divide a and b as divide n and d, and a step to b and the rest of a by b keeps that
pub record SameDivisors (n d a b : ℕ) : Type 0 where
  pub of_both : (c : ℕ) → Divides c a → Divides c b → Divides c n × Divides c d
  pub of_these : (c : ℕ) → Divides c n → Divides c d → Divides c a × Divides c b
  pub some_left : 1 ≤ n + d → 1 ≤ a + b
  pub none_left : n + d ≡ 0 → a + b ≡ 0

pub at_first : (n d : ℕ) → SameDivisors n d n d
at_first n d = record { of_both = (λ c h k. (h, k)); of_these = (λ c h k. (h, k)); some_left = (λ h. h); none_left = (λ h. h) }

-- from a divisor of b and of the rest to one of a, and back
joined : (b r q c t u : ℕ) → b ≡ t * c → r ≡ u * c → b * q + r ≡ (t * q + u) * c
joined b r q c t u e f = rw (e, f) (omega arith)

divides_whole : (a b c : ℕ) → Divides c b → Divides c (a % b) → Divides c a
divides_whole a b c h k = record { times = h.times * (a / b) + k.times; is = sym (div-add-mod a b) ∙ joined b (a % b) (a / b) c h.times k.times h.is k.is }

parted : (a b r q c t u : ℕ) → b * q + r ≡ a → a ≡ t * c → b ≡ u * c → r ≡ (t - u * q) * c
parted a b r q c t u s e f = let m : b * q ≡ u * q * c = rw f (omega arith) in omega (arith, mul-sub c t (u * q))

divides_rest : (a b c : ℕ) → Divides c a → Divides c b → Divides c (a % b)
divides_rest a b c h k = record { times = h.times - k.times * (a / b); is = parted a b (a % b) (a / b) c h.times k.times (div-add-mod a b) h.is k.is }

pub next : (n d a b : ℕ) → 0 < b → SameDivisors n d a b → SameDivisors n d b (a % b)
next n d a b some s = record {
  of_both = (λ c h k. s.of_both c (divides_whole a b c h k) h);
  of_these = (λ c h k. let z = s.of_these c h k in (z.1, divides_rest a b c z.0 z.1));
  some_left = (λ h. omega arith);
  none_left = (λ h. absurd (omega (arith, s.none_left h)));
}

divides_zero : (c n : ℕ) → n ≡ 0 → Divides c n
divides_zero c n e = record { times = 0; is = omega arith }

divides_self : (n : ℕ) → Divides n n
divides_self n = record { times = 1; is = omega arith }

one_divides : (n : ℕ) → Divides 1 n
one_divides n = record { times = n; is = omega arith }

-- b is used up: a is the greatest ..
pub at_last : (n d a b : ℕ) → SameDivisors n d a b → b ≡ 0 → 1 ≤ a → Greatest n d a
at_last n d a b s e h =
    let k = s.of_both a (divides_self a) (divides_zero a b e) in
    record {
      at_least = h;
      divides_n = k.0;
      divides_d = k.1;
      greatest = (λ m c p q. (s.of_these c p q).0);
      of_zeros = (λ z. absurd (omega (arith, s.none_left z)));
    }

-- .. or nothing is left, and both were 0
pub at_zeros : (n d a b : ℕ) → SameDivisors n d a b → b ≡ 0 → a ≡ 0 → Greatest n d 1
at_zeros n d a b s e f = record {
  at_least = omega arith;
  divides_n = one_divides n;
  divides_d = one_divides d;
  greatest = (λ m c p q. absurd (omega (arith, s.some_left m)));
  of_zeros = (λ z. refl);
}
