-- The order and the texts of sheet stamps.
use Rattle.std.specs.Prelude.{◌≡◌, ℕ, ◌+◌, ◌^◌, ◌<◌, ◌≤◌, Bool, true, false, ◌&&◌, List, [], ◌∷◌, ◌++◌, length, take, drop, Some, None, ◌≢◌, nat_eq, nat_le, nat_lt, refl}
use Rattle.std.proofs.Common.{sym, ap, subst, ◌∙◌, arith}
use Rattle.std.specs.Str.Parse.{digits_value}
use Rattle.std.specs.Cmp.Lexicographic.{other_text, pointwise, same_text}
use Rattle.std.specs.Int.{is_in_range}
use Rattle.std.specs.List.{IsSplitAt}
use Rattle.std.specs.Str.{all_ascii_digits}
use Rattle.std.proofs.lemmas.List.{drop_at, drop-drop, length-take, take_all, take-append-drop, take_at}
use Rattle.std.proofs.lemmas.Bool.{and_parts, both_ways, leb-true}
use Rattle.std.proofs.lemmas.Str.Parse.{digits_value_short}
use Rattle.moments.specs.Digits.{padded}
use Rattle.moments.specs.Order.{StrictTotalOrder, first_by}
use Rattle.moments.specs.SheetStamps.{first_season, last_season, first_sheet, last_sheet, first_line, last_line, season_digits, sheet_digits, line_digits, stamp_before, stamp_ranged, stamp_written, Parted}
use Rattle.moments.specs.Moments.{ReadAs}
use Rattle.moments.specs.Laws.Readings.{read_none}
use Rattle.moments.specs.declared.sheet_stamp.SheetStamp.{SheetStamp}
use Rattle.moments.specs.Laws.Lex.{nat_lt_laws, first_irreflexive, first_transitive, first_connected}
use Rattle.moments.specs.Laws.Numerals.{own, digits_padded, length-padded, padded_apart, padded_value, value_padded}

abbrev by_line : SheetStamp → SheetStamp → Bool
by_line s t = nat_lt s.line t.line

abbrev by_sheet : SheetStamp → SheetStamp → Bool
by_sheet = first_by nat_lt (λ s. s.sheet) by_line

pub stamp_laws : StrictTotalOrder stamp_before
stamp_laws = record {
  irreflexive = first_irreflexive nat_lt nat_lt_laws (λ s. s.season) by_sheet (first_irreflexive nat_lt nat_lt_laws (λ s. s.sheet) by_line (λ s. nat_lt_laws.irreflexive s.line));
  connected = λ s t h k.
      let p = first_connected nat_lt nat_lt_laws (λ s. s.season) by_sheet s t h k in
      let q = first_connected nat_lt nat_lt_laws (λ s. s.sheet) by_line s t p.1 p.2 in
      let l = nat_lt_laws.connected s.line t.line q.1 q.2 in
      λ i. record { season = p.0 i; sheet = q.0 i; line = l i };
  transitive = first_transitive nat_lt nat_lt_laws (λ s. s.season) by_sheet (first_transitive nat_lt nat_lt_laws (λ s. s.sheet) by_line (λ s t u. nat_lt_laws.transitive s.line t.line u.line));
}

-- what a field is cut into: parts of a, b and e bytes with slashes (byte 47) between them
module _ (a b e : ℕ) where
  pub record Cut (f p q r : List ℕ) : Type 0 where
    pub first : take a f ≡ p
    pub first_slash : drop a f ≡ 47 ∷ (q ++ (47 ∷ r))
    pub second : take b (drop 1 (drop a f)) ≡ q
    pub second_slash : drop b (drop 1 (drop a f)) ≡ 47 ∷ r
    pub third : drop 1 (drop b (drop 1 (drop a f))) ≡ r
    pub last : length r ≡ e

  pub cut_apart : (f p q r : List ℕ) → f ≡ p ++ (47 ∷ (q ++ (47 ∷ r))) → length p ≡ a → length q ≡ b → length r ≡ e → Cut f p q r
  cut_apart f p q r w k l m = record {
    first = ap (take a) w ∙ take_at p (47 ∷ (q ++ (47 ∷ r))) a k;
    first_slash = rest;
    second = ap (λ (t : List ℕ). take b (drop 1 t)) rest ∙ take_at q (47 ∷ r) b l;
    second_slash = past;
    third = ap (drop 1) past;
    last = m;
  }
    where
      rest : drop a f ≡ 47 ∷ (q ++ (47 ∷ r))
      rest = ap (drop a) w ∙ drop_at p (47 ∷ (q ++ (47 ∷ r))) a k

      past : drop b (drop 1 (drop a f)) ≡ 47 ∷ r
      past = ap (λ (t : List ℕ). drop b (drop 1 t)) rest ∙ drop_at q (47 ∷ r) b l

-- what is known of the text of a stamp in range
abbrev pub CutStamp : List ℕ → SheetStamp → Type 0
CutStamp f s = Cut season_digits sheet_digits line_digits f (padded season_digits s.season) (padded sheet_digits s.sheet) (padded line_digits s.line)

-- each part has few enough digits
pub record Small (s : SheetStamp) : Type 0 where
  pub season : s.season < 10 ^ season_digits
  pub sheet : s.sheet < 10 ^ sheet_digits
  pub line : s.line < 10 ^ line_digits

at_most : (first last n : ℕ) → is_in_range first last n ≡ true → n ≤ last
at_most first last n h = leb-true n last (and_parts (nat_le first n) (nat_le n last) h).1

ranged_small : (s : SheetStamp) → stamp_ranged s ≡ true → Small s
ranged_small s r =
    let p = and_parts (is_in_range first_season last_season s.season) (is_in_range first_sheet last_sheet s.sheet && is_in_range first_line last_line s.line) r in
    let q = and_parts (is_in_range first_sheet last_sheet s.sheet) (is_in_range first_line last_line s.line) p.1 in
    record {
      season = omega (arith, at_most first_season last_season s.season p.0);
      sheet = omega (arith, at_most first_sheet last_sheet s.sheet q.0);
      line = omega (arith, at_most first_line last_line s.line q.1);
    }

pub stamp_cut : (f : List ℕ) (s : SheetStamp) → stamp_ranged s ≡ true → stamp_written s ≡ f → CutStamp f s
stamp_cut f s r w =
    let m = ranged_small s r in
    cut_apart season_digits sheet_digits line_digits f _ _ _ (sym w)
    (length-padded season_digits s.season (omega arith) m.season (omega arith))
    (length-padded sheet_digits s.sheet (omega arith) m.sheet (omega arith))
    (length-padded line_digits s.line (omega arith) m.line (omega arith))

pub stamp_apart : (x y : SheetStamp) → stamp_ranged x ≡ true → stamp_ranged y ≡ true → stamp_written x ≡ stamp_written y → x ≡ y
stamp_apart x y r t e =
    let m = ranged_small x r in
    let n = ranged_small y t in
    let c = stamp_cut (stamp_written y) x r e in
    let d = stamp_cut (stamp_written y) y t refl in
    let p = padded_apart season_digits x.season y.season (omega arith) (omega arith) (sym c.first ∙ d.first) in
    let q = padded_apart sheet_digits x.sheet y.sheet (omega arith) (omega arith) (sym c.second ∙ d.second) in
    let l = padded_apart line_digits x.line y.line (omega arith) (omega arith) (sym c.third ∙ d.third) in
    λ i. record { season = p i; sheet = q i; line = l i }

-- no stamp in range has the text
pub refused : (f : List ℕ) → ((s : SheetStamp) → stamp_ranged s ≡ true → CutStamp f s → ⊥) → Parted f None
refused f n = record { accepted = tt; back = λ s r w. absurd (n s r (stamp_cut f s r w)) }

-- what follows the season begins with no slash; what follows the sheet; the line is too short or too long
pub no_first_slash : (f rest : List ℕ) → rest ≡ drop season_digits f → pointwise nat_eq (take 1 rest) (47 ∷ []) ≡ false → Parted f None
no_first_slash f rest e n = refused f (λ s r c. other_text (take 1 rest) (47 ∷ []) (sym n) (ap (take 1) (e ∙ c.first_slash)))

pub no_second_slash : (f rest : List ℕ) → rest ≡ drop sheet_digits (drop 1 (drop season_digits f)) → pointwise nat_eq (take 1 rest) (47 ∷ []) ≡ false → Parted f None
no_second_slash f rest e n = refused f (λ s r c. other_text (take 1 rest) (47 ∷ []) (sym n) (ap (take 1) (e ∙ c.second_slash)))

pub no_end : (f line : List ℕ) → line ≡ drop 1 (drop sheet_digits (drop 1 (drop season_digits f))) → (length line ≡ line_digits → ⊥) → Parted f None
no_end f line e n = refused f (λ s r c. n (ap length (e ∙ c.third) ∙ c.last))

-- a part that is not all digits
no_part : (width n : ℕ) (ds : List ℕ) → n < 2 ^ 64 → all_ascii_digits ds ≡ false → ds ≢ padded width n
no_part width n ds h f e = both_ways (all_ascii_digits ds) f (ap all_ascii_digits e ∙ digits_padded width n h)

pub no_season : (f : List ℕ) → all_ascii_digits (take season_digits f) ≡ false → Parted f None
no_season f n = refused f (λ s r c. let m = ranged_small s r in no_part season_digits s.season _ (omega arith) n c.first)

pub no_sheet : (f : List ℕ) → all_ascii_digits (take sheet_digits (drop (season_digits + 1) f)) ≡ false → Parted f None
no_sheet f n = refused f (λ s r c. let m = ranged_small s r in no_part sheet_digits s.sheet _ (omega arith) n (ap (take sheet_digits) (sym (drop-drop 1 season_digits f)) ∙ c.second))

pub no_line : (f : List ℕ) → all_ascii_digits (take line_digits (drop (season_digits + 1 + sheet_digits + 1) f)) ≡ false → Parted f None
no_line f n = refused f (λ s r c. let m = ranged_small s r in no_part line_digits s.line _ (omega arith) n (ap (take line_digits) (simp drop-drop at c.third) ∙ take_all line_digits _ (omega (arith, c.last))))

-- a part's bytes are the text of its number
part_written : (width n : ℕ) (ds : List ℕ) → length ds ≡ width → 0 < width → width ≤ 9 → (all_ascii_digits ds ≡ true) × (n ≡ digits_value 10 ds) → padded width n ≡ ds
part_written width n ds l some few p =
    ap (padded width) p.1 ∙ (ap (λ (k : ℕ). padded k (digits_value 10 ds)) (sym l) ∙ padded_value ds p.0 (omega arith) (omega arith))

-- and of no other number
part_back : (width m n : ℕ) (ds : List ℕ) → n < 2 ^ 64 → m ≡ digits_value 10 ds → ds ≡ padded width n → m ≡ n
part_back width m n ds h e q = e ∙ (ap (digits_value 10) q ∙ value_padded width n h)

-- the most that a part of so many digits can be
pub part_below : (width n : ℕ) (ds : List ℕ) → (all_ascii_digits (take width ds) ≡ true) × (n ≡ digits_value 10 (take width ds)) → n < 10 ^ width
part_below width n ds p = subst (λ (k : ℕ). k < 10 ^ width) (sym p.1) (digits_value_short own (take width ds) width p.0 (simp length-take (omega arith)))

-- what stripping a slash tells
abbrev Stripped : List ℕ → List ℕ → Type 0
Stripped rest t = (pointwise nat_eq (take 1 rest) (47 ∷ []) ≡ true) × (t ≡ drop 1 rest) × (length t + 1 ≡ length rest)

stripped : (rest t : List ℕ) → Stripped rest t → rest ≡ 47 ∷ t
stripped rest t p = sym (take-append-drop 1 rest) ∙ (λ i. same_text (take 1 rest) (47 ∷ []) (sym p.0) i ++ sym p.1 i)

-- a field with its slashes, cut into the bytes of the season, the sheet and the line
module _ (f season rest mid sheet tail line : List ℕ) (one : IsSplitAt f season_digits season rest) (two : Stripped rest mid) (three : IsSplitAt mid sheet_digits sheet tail) (four : Stripped tail line) (long : length line ≡ line_digits) where
  whole : f ≡ season ++ (47 ∷ (sheet ++ (47 ∷ line)))
  whole =
      let joined : f ≡ season ++ rest = sym (take-append-drop season_digits f) ∙ (λ i. sym one.1 i ++ sym one.2 i) in
      let inner : mid ≡ sheet ++ tail = sym (take-append-drop sheet_digits mid) ∙ (λ i. sym three.1 i ++ sym three.2 i) in
      joined ∙ ap (λ (t : List ℕ). season ++ t) (stripped rest mid two ∙ ap (λ (t : List ℕ). 47 ∷ t) (inner ∙ ap (λ (t : List ℕ). sheet ++ t) (stripped tail line four)))

  cut : Cut season_digits sheet_digits line_digits f season sheet line
  cut = cut_apart season_digits sheet_digits line_digits f season sheet line whole one.3 three.3 long

  module _ (s : SheetStamp)
      (is_season : (all_ascii_digits season ≡ true) × (s.season ≡ digits_value 10 season))
      (is_sheet : (all_ascii_digits sheet ≡ true) × (s.sheet ≡ digits_value 10 sheet))
      (is_line : (all_ascii_digits line ≡ true) × (s.line ≡ digits_value 10 line)) where
    together : stamp_written s ≡ f
    together =
        let p = part_written season_digits s.season season one.3 (omega arith) (omega arith) is_season in
        let q = part_written sheet_digits s.sheet sheet three.3 (omega arith) (omega arith) is_sheet in
        let r = part_written line_digits s.line line long (omega arith) (omega arith) is_line in
        (λ i. p i ++ (47 ∷ (q i ++ (47 ∷ r i)))) ∙ sym whole

    same : (m : SheetStamp) → stamp_ranged m ≡ true → stamp_written m ≡ f → s ≡ m
    same m r w =
        let n = ranged_small m r in
        let c = stamp_cut f m r w in
        let p = part_back season_digits s.season m.season season (omega arith) is_season.1 (sym cut.first ∙ c.first) in
        let q = part_back sheet_digits s.sheet m.sheet sheet (omega arith) is_sheet.1 (sym cut.second ∙ c.second) in
        let l = part_back line_digits s.line m.line line (omega arith) is_line.1 (sym cut.third ∙ c.third) in
        λ i. record { season = p i; sheet = q i; line = l i }

    pub parted : Parted f (Some s)
    parted = record { accepted = together; back = λ m r w. ap Some (same m r w) }

-- from the parts to the reading
pub read_ranged : (f : List ℕ) (s : SheetStamp) → Parted f (Some s) → stamp_ranged s ≡ true → ReadAs stamp_ranged stamp_written f (Some s)
read_ranged f s p r = record { accepted = (r, p.accepted); back = p.back }

pub read_unranged : (f : List ℕ) (s : SheetStamp) → Parted f (Some s) → stamp_ranged s ≡ false → ReadAs stamp_ranged stamp_written f None
read_unranged f s p n = read_none stamp_ranged stamp_written f (λ m r w.
    let e : s ≡ m = (let q = p.back m r w in cc) in
    both_ways (stamp_ranged s) n (ap stamp_ranged e ∙ r))
