-- What a format with zeros in front writes.
use Rattle.std.proofs.Common.{◌≡◌, ℕ, ◌-◌, false, [], ◌++◌, decimal, length, replicate, ap, ◌∙◌, arith}
use Rattle.std.specs.Fmt.{format_spec, padded_integral, styled_decimal, is_bare_number, char_count}
use Rattle.std.proofs.lemmas.Bool.{cond-false}
use Rattle.std.proofs.lemmas.List.{append-nil}
use Rattle.moments.specs.Digits.{padded}

zeros : (width n : ℕ) → padded_integral (format_spec 32 0 4 width 18446744073709551615) false [] (decimal n) ≡ padded width n
unfolding padded_integral char_count
zeros width n =
    let p : width - length (decimal n) - 0 - 0 ≡ width - length (decimal n) = omega arith in
    λ i. replicate (p i) 48 ++ append-nil (decimal n) i

pub zeros_in_front : (width n : ℕ) (s : _) → s ≡ format_spec 32 0 4 width 18446744073709551615 → is_bare_number s ≡ false → styled_decimal s n ≡ padded width n
zeros_in_front width n s e h = cond-false (is_bare_number s) _ _ h ∙ ap (λ f. padded_integral f false [] (decimal n)) e ∙ zeros width n
