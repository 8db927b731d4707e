-- What one more bit does to the set that a grid shows.
use Rattle.std.proofs.Common.{◌≡◌, ℕ, ◌+◌, ◌*◌, ◌/◌, ◌<◌, ◌≤◌, Bool, true, false, ◌&&◌, ◌||◌, eqb, List, [], ◌∷◌, ◌++◌, length, drop, replicate, Ok, sym, refl, ap, ◌∙◌, arith}
use Rattle.std.proofs.lemmas.List.{length-append, length-replicate, length-drop, length-set, drop_at, drop-set-lt}
use Rattle.std.specs.List.{filter}
use Rattle.std.proofs.lemmas.List.Sums.{length-filter, count_by-le-length}
use Rattle.std.proofs.lemmas.Bool.{eq-eqb, ne_eqb, or_right, or_from}
use Rattle.pools.specs.Periods.{Span, sooner}
use Rattle.pools.specs.Sets.{Puts, in_bounds, member, with}
use Rattle.pools.specs.Cells.{Laid, every, triangular, bit_number, bit_at, has_bit, on_grid, grid_size, needed, with_bit, wiped_words}
use Rattle.pools.specs.Laws.Earlier.{sooner_laws}
use Rattle.pools.proofs.Filters.{among_filter, filter_same, filter_with, with_longer}
use Rattle.pools.specs.Laws.Grids.{grid_ascends, every_ascends, every-length, bounds}
use Rattle.pools.proofs.Grids.{every_bounds, every_in, among_every, number_apart}
use Rattle.pools.proofs.Marks.{marked_none, marked_with}
use Rattle.pools.proofs.Puts.{put_there, put_new}
use Rattle.pools.proofs.Triangles.{number_below, in_words}

or_none : (b : Bool) → (b || false) ≡ b
or_none true = refl
or_none false = refl

module _ (labels m : ℕ) (words : List ℕ) where
  grid_member : (p : Span) → member p (on_grid labels m words) ≡ (in_bounds labels m p && has_bit m words p)
  grid_member p = among_filter sooner sooner_laws (has_bit m words) p (every labels m) ∙ ap (λ (b : Bool). b && has_bit m words p) (among_every labels m p)

  pub has_in : (p : Span) → in_bounds labels m p ≡ true → has_bit m words p ≡ member p (on_grid labels m words)
  has_in p h = sym (grid_member p ∙ ap (λ (b : Bool). b && has_bit m words p) h)

  pub has_out : (p : Span) → in_bounds labels m p ≡ false → false ≡ member p (on_grid labels m words)
  has_out p h = sym (grid_member p ∙ ap (λ (b : Bool). b && has_bit m words p) h)

  -- the bit of a period in bounds lies in the words needed
  pub word_within : (p : Span) → in_bounds labels m p ≡ true → needed labels m ≤ length words → bit_number m p / 32 < length words
  word_within p h n =
      let b = bounds labels m p h in
      let q = in_words (bit_number m p) (labels * triangular m) (number_below labels m p.label.0 p.start.0 p.end.0 b.0 b.2 b.1) in
      omega arith

  -- the words of a grid, after any call
  pub laid : (were : List ℕ) → ((k : ℕ) → labels * triangular m ≤ k → k / 32 < needed labels m → bit_at words k ≡ false) → drop (needed labels m) words ≡ drop (needed labels m) were → Laid labels m were (on_grid labels m words) words
  laid were s e = record { bits = λ p h. has_in p h; spare = s; later = e }

  more : (p : Span) (g : Span → Bool) → in_bounds labels m p ≡ true → ((y : Span) → g y ≡ (has_bit m words y || eqb (bit_number m p) (bit_number m y))) → filter g (every labels m) ≡ with p (on_grid labels m words)
  more p g h e = filter_with sooner sooner_laws (has_bit m words) g p (every labels m) (every_ascends labels m) (every_in labels m p h)
      (e p ∙ or_right (has_bit m words p) (eqb (bit_number m p) (bit_number m p)) (eq-eqb (bit_number m p) (bit_number m p) refl))
      (λ y a ne. e y ∙ (ap (λ (b : Bool). has_bit m words y || b) (number_apart labels m p y h (every_bounds labels m y a) ne) ∙ or_none (has_bit m words y)))

  -- where the bit of p becomes 1
  grid_with : (p : Span) (words' : List ℕ) → in_bounds labels m p ≡ true → ((j : ℕ) → bit_at words' j ≡ (bit_at words j || eqb (bit_number m p) j)) → on_grid labels m words' ≡ with p (on_grid labels m words)
  grid_with p words' h e = more p (has_bit m words') h (λ y. e (bit_number m y))

  module _ (p : Span) (h : in_bounds labels m p ≡ true) (out : has_bit m words p ≡ false) where
    absent : member p (on_grid labels m words) ≡ false
    absent = sym (has_in p h) ∙ out

    grid_room : length (on_grid labels m words) < labels * triangular m
    grid_room =
        let g : Span → Bool = λ y. has_bit m words y || eqb (bit_number m p) (bit_number m y) in
        let a = ap length (more p g h (λ y. refl)) in
        let b = with_longer sooner sooner_laws p (on_grid labels m words) absent in
        let c = length-filter g (every labels m) in
        let f = count_by-le-length g (every labels m) in
        let d = every-length labels m in
        omega arith

    grid_longer : (words' : List ℕ) → ((j : ℕ) → bit_at words' j ≡ (bit_at words j || eqb (bit_number m p) j)) → length (on_grid labels m words') ≡ length (on_grid labels m words) + 1
    grid_longer words' e = ap length (grid_with p words' h e) ∙ with_longer sooner sooner_laws p (on_grid labels m words) absent

    grid_put_new : (words' : List ℕ) → ((j : ℕ) → bit_at words' j ≡ (bit_at words j || eqb (bit_number m p) j)) → Puts (grid_size labels m) (on_grid labels m words) p (Ok tt) (on_grid labels m words')
    grid_put_new words' e = put_new (grid_size labels m) (on_grid labels m words) p (on_grid labels m words') h grid_room absent (grid_with p words' h e)

  -- the bits past the last period stay 0
  spare_kept : (p : Span) (words' : List ℕ) → in_bounds labels m p ≡ true → ((j : ℕ) → bit_at words' j ≡ (bit_at words j || eqb (bit_number m p) j)) → (k : ℕ) → labels * triangular m ≤ k → bit_at words k ≡ false → bit_at words' k ≡ false
  spare_kept p words' h e k l n =
      let b = bounds labels m p h in
      let q = number_below labels m p.label.0 p.start.0 p.end.0 b.0 b.2 b.1 in
      e k ∙ or_from (bit_at words k) (eqb (bit_number m p) k) n (ne_eqb (bit_number m p) k (λ u. omega arith))

  pub grid_put_there : (p : Span) → in_bounds labels m p ≡ true → has_bit m words p ≡ true → Puts (grid_size labels m) (on_grid labels m words) p (Ok tt) (on_grid labels m words)
  grid_put_there p h t = put_there (grid_size labels m) (on_grid labels m words) p h (grid_ascends labels m words) (sym (has_in p h) ∙ t)

filter_none : {A : Type 0} (xs : List A) → filter (λ _. false) xs ≡ []
filter_none [] = refl
filter_none (x ∷ xs) = filter_none xs

-- with the needed words 0 the grid shows nothing
grid_empty : (labels m : ℕ) (rest : List ℕ) → on_grid labels m (replicate (needed labels m) 0 ++ rest) ≡ []
grid_empty labels m rest =
    filter_same sooner sooner_laws (has_bit m (replicate (needed labels m) 0 ++ rest)) (λ _. false) (every labels m)
    (λ y a. let b = bounds labels m y (every_bounds labels m y a) in
    marked_none (needed labels m) (bit_number m y) rest (in_words (bit_number m y) (labels * triangular m) (number_below labels m y.label.0 y.start.0 y.end.0 b.0 b.2 b.1)))
    ∙ filter_none (every labels m)

drop_wiped : (n : ℕ) (words : List ℕ) → drop n (replicate n 0 ++ drop n words) ≡ drop n words
drop_wiped n words = drop_at (replicate n 0) (drop n words) n (length-replicate {A = ℕ} n 0)

-- what holds once the needed words are 0
pub record Wiped (labels m : ℕ) (words words' : List ℕ) : Type 0 where
  pub enough : needed labels m ≤ length words'
  pub counted : ◌≡◌ {A = ℕ} 0 (length (on_grid labels m words'))
  pub spare : (k : ℕ) → labels * triangular m ≤ k → k / 32 < needed labels m → bit_at words' k ≡ false
  pub later : drop (needed labels m) words' ≡ drop (needed labels m) words

pub wiped : (labels m : ℕ) (words words' : List ℕ) → needed labels m ≤ length words → words' ≡ wiped_words labels m words → Wiped labels m words words'
wiped labels m words words' enough e =
    let n = needed labels m in
    record {
      enough = rw e (omega (arith, length-append (replicate n 0) (drop n words), length-replicate {A = ℕ} n 0, length-drop n words));
      counted = sym (ap length (ap (on_grid labels m) e ∙ grid_empty labels m (drop n words)));
      spare = λ k _ l. ap (λ (ws : List ℕ). bit_at ws k) e ∙ marked_none n k (drop n words) l;
      later = ap (drop n) e ∙ drop_wiped n words;
    }

later_marked : (labels m : ℕ) (words words' : List ℕ) (p : Span) → words' ≡ with_bit words (bit_number m p) → in_bounds labels m p ≡ true → drop (needed labels m) words' ≡ drop (needed labels m) words
later_marked labels m words words' p e b =
    let q = bounds labels m p b in
    let l = in_words (bit_number m p) (labels * triangular m) (number_below labels m p.label.0 p.start.0 p.end.0 q.0 q.2 q.1) in
    ap (drop (needed labels m)) e ∙ drop-set-lt (needed labels m) words (bit_number m p / 32) _ l

-- what holds once the bit of a new period is 1
pub record Marked (labels m : ℕ) (words : List ℕ) (p : Span) (words' : List ℕ) : Type 0 where
  pub enough : needed labels m ≤ length words'
  pub longer : length (on_grid labels m words') ≡ length (on_grid labels m words) + 1
  pub answer : Puts (grid_size labels m) (on_grid labels m words) p (Ok tt) (on_grid labels m words')
  pub spare : (k : ℕ) → labels * triangular m ≤ k → k / 32 < needed labels m → bit_at words' k ≡ false
  pub later : drop (needed labels m) words' ≡ drop (needed labels m) words

pub marked : (labels m : ℕ) (words : List ℕ) (p : Span) (words' : List ℕ) → in_bounds labels m p ≡ true → has_bit m words p ≡ false → needed labels m ≤ length words
    → ((k : ℕ) → labels * triangular m ≤ k → k / 32 < needed labels m → bit_at words k ≡ false) → words' ≡ with_bit words (bit_number m p) → Marked labels m words p words'
marked labels m words p words' inside out enough spare e =
    let bits : (j : ℕ) → bit_at words' j ≡ (bit_at words j || eqb (bit_number m p) j) = λ j. ap (λ (ws : List ℕ). bit_at ws j) e ∙ marked_with words (bit_number m p) j (word_within labels m words p inside enough) in
    let room : length words' ≡ length words = ap length e ∙ length-set words (bit_number m p / 32) _ in
    record {
      enough = omega (arith, enough, room);
      longer = grid_longer labels m words p inside out words' bits;
      answer = grid_put_new labels m words p inside out words' bits;
      spare = λ k a b. spare_kept labels m words p words' inside bits k a (spare k a b);
      later = later_marked labels m words words' p e inside;
    }
