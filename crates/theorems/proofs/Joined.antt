-- The third signed sentence, joined of its parts (specs/Ordered, Dropped, Among, Placed, Alone, Equally), of the
-- buffers that Query wrote. Assumes nothing.
use Rattle.std.specs.Prelude.{◌≡◌, ◌⊎◌, ◌↔◌, Bool, true, false, ◌&&◌, List, ℕ, suc, ◌<◌, ℤ}
use Rattle.std.proofs.Common.{sym, ◌∙◌, ap, inl, inr}
use Rattle.std.specs.Int.Bits.{bit_or}
use Rattle.std.proofs.Math.ListN.{get_or}
use borrow.Author.Tests.{eqb-true, eq-eqb}
use Rattle.model.specs.Record.{p_at, q_at}
use Rattle.model.specs.Term.{term_at, columns_of}
use Rattle.model.specs.Query.{row_count, fails_group, query_buffer}
use Rattle.model.specs.Demand.{left_first, right_first, equally, keeps}
use Rattle.laws.specs.Bools.{and_l, and_r, and_i, off}
use Rattle.laws.proofs.Answered.{gives-and-writes}
use Rattle.theorems.specs.Strictly.{TermRecord}
use Rattle.theorems.specs.Asked.{Asked, AskedTwo, TwoParts, Long, BeatenBy, KeepsAmong, Alike}
use Rattle.theorems.specs.Ordered as ordered
use Rattle.theorems.proofs.Dropped.{query-passes, dropped-beaten-by-kept}
use Rattle.theorems.specs.Among.{wider-asked}
use Rattle.theorems.proofs.Among.{second-by-group}
use Rattle.theorems.proofs.Placed.{placings-accepted, left-part, right-part, left-placed, right-placed, even-placed}
use Rattle.theorems.proofs.Placed.{prior-keeps}
use Rattle.theorems.proofs.Alone.{parts-alone}
use Rattle.theorems.proofs.Equally.{pareto-keeps}
use Rattle.theorems.specs.ThirdSentence.{Wrote, Keeps, Drops, PlacedBefore, WroteAlike, OfTwoParts, ThirdSentence}
use Rattle.theorems.specs.ThirdSentence.{Answers, PartsAnswer}

-- ---- buffers that Query wrote

module _ (table : List ℕ) (columns : ℕ) (rows : List ℤ) (term group : ℕ) (a : List ℕ)
    (w : Wrote table columns rows term group a) where
  -- An entry of what Query wrote.
  entry : (i d : ℕ) → get_or a i d ≡ get_or (query_buffer table columns rows term group w.before) i d
  entry i d = ap (λ (l : List ℕ). get_or l i d) w.written

  -- The buffer keeps a row exactly where the test says so.
  by-test : (i : ℕ) → Keeps a i ↔ (keeps table columns rows term group w.before i ≡ true)
  unfolding keeps
  by-test i =
      let there = get_or (query_buffer table columns rows term group w.before) i (suc i) in (
        λ e. eq-eqb there i (sym (entry i (suc i)) ∙ e),
        λ e. entry i (suc i) ∙ eqb-true there i e,
      )

  -- Every dropped row is beaten by a kept row of the set, the one that its entry names.
  dropped : Asked table columns rows term group → (i : ℕ) → i < row_count columns rows → Drops a i
      → (j : ℕ) × BeatenBy table columns rows term group i j × Keeps a j × (get_or a i 0 ≡ j)
  dropped asked i row d =
      let v = dropped-beaten-by-kept table columns rows term group asked w.before w.long i row
      (off (keeps table columns rows term group w.before i) (λ e. d ((by-test i).1 e))) in
      (v.0, v.1, (by-test v.0).1 v.2, entry i 0 ∙ v.3)

-- ---- two parts

-- What two tests that pass together say, of three facts that they test.
both-tests : {A B C : Type 0} (x y z : Bool) → A ↔ (x ≡ true) → B ↔ (y ≡ true) → C ↔ (z ≡ true) → x ≡ (y && z)
    → A ↔ (B × C)
both-tests x y z f g h e = (
  λ a. let t = sym e ∙ f.0 a in (g.1 (and_l y z t), h.1 (and_r y z t)),
  λ w. f.1 (e ∙ and_i (g.0 w.0) (h.0 w.1)),
)

-- The same of three facts that are said otherwise.
three_ways : {A B C A' B' C' D : Type 0} → A ↔ A' → B ↔ B' → C ↔ C' → A' ↔ (B' ⊎ (C' ⊎ D)) → A ↔ (B ⊎ (C ⊎ D))
three_ways {A} {B} {C} {A'} {B'} {C'} {D} f g h e = (λ a. back (e.0 (f.0 a)), λ w. f.1 (e.1 (there w)))
  where
    there : B ⊎ (C ⊎ D) → B' ⊎ (C' ⊎ D)
    there (inl b) = inl (g.0 b)
    there (inr (inl c)) = inr (inl (h.0 c))
    there (inr (inr d)) = inr (inr d)

    back : B' ⊎ (C' ⊎ D) → B ⊎ (C ⊎ D)
    back (inl b) = inl (g.1 b)
    back (inr (inl c)) = inr (inl (h.1 c))
    back (inr (inr d)) = inr (inr d)

-- What Query on the second says, with the bits of the first's columns set in the group byte too.
among-query : (table : List ℕ) (columns : ℕ) (rows : List ℤ) (first second group : ℕ) → TermRecord table columns first
    → Asked table columns rows second group → (i : ℕ) → i < row_count columns rows
    → (before : List ℕ) → Long columns rows before
    → KeepsAmong table columns rows first second group i
    ↔ (keeps table columns rows second (bit_or group (columns_of (term_at table first))) before i ≡ true)
among-query table columns rows first second group t asked i row before long =
    let w = second-by-group table columns rows first second group t asked i row before long in
    (λ k. sym w.0 ∙ w.1.1 k, λ e. w.1.0 (w.0 ∙ e))

-- One placed before the other, where the test of the placing is the two tests.
placed-before : (table placing : List ℕ) (columns : ℕ) (rows : List ℤ) (k first second group : ℕ)
    → TermRecord table columns first → Asked table columns rows second group
    → ((i : ℕ) → i < row_count columns rows → (a b c : List ℕ)
    → Long columns rows a → Long columns rows b → Long columns rows c
    → keeps placing columns rows k group a i
    ≡ (keeps table columns rows first group b i
    && keeps table columns rows second (bit_or group (columns_of (term_at table first))) c i))
    → PlacedBefore table placing columns rows k first second group
placed-before table placing columns rows k first second group t asked law =
    record {
      keeps_row = λ a b wa wb i row.
          both-tests _ _ _ (by-test placing columns rows k group a wa i) (by-test table columns rows first group b wb i)
          (among-query table columns rows first second group t asked i row wb.before wb.long)
          (law i row wa.before wb.before wb.before wa.long wb.long wb.long);
      by_group = λ c wc i row.
          let m = by-test table columns rows second (bit_or group (columns_of (term_at table first))) c wc i in
          let n = among-query table columns rows first second group t asked i row wc.before wc.long in
          (λ k. n.1 (m.0 k), λ k. m.1 (n.0 k));
    }

-- A record that answers alike in two tables.
alike-wrote : (table other : List ℕ) (columns : ℕ) (rows : List ℤ) (term group : ℕ)
    → ((before : List ℕ) → Long columns rows before → Alike table other columns rows term group before)
    → WroteAlike table other columns rows term group
alike-wrote table other columns rows term group alike a = (
  λ w. record { before = w.before; long = w.long; written = w.written ∙ (alike w.before w.long).1 },
  λ w. record { before = w.before; long = w.long; written = w.written ∙ sym (alike w.before w.long).1 },
)

module _ (table : List ℕ) (columns : ℕ) (rows : List ℤ) (k group : ℕ) (asked : AskedTwo table columns rows k group) where
  -- What it says of two parts.
  of-two-parts : OfTwoParts table columns rows k group
  of-two-parts =
      let three = placings-accepted table columns asked.is_accepted k asked.two_parts in
      record {
        left_accepted = three.0.0;
        right_accepted = three.1.0;
        equally_accepted = three.2.0;
        part_alone = λ part g which fits. (
          alike-wrote table (left_first table k) columns rows part g (λ b l. (alone part g which fits b l).0),
          alike-wrote table (right_first table k) columns rows part g (λ b l. (alone part g which fits b l).1),
          alike-wrote table (equally table k) columns rows part g (λ b l. (alone part g which fits b l).2),
        );
        left_before = placed-before table (left_first table k) columns rows k (p_at table k) (q_at table k) group
            (left-part table columns rows k group asked).of_term (right-part table columns rows k group asked)
            (λ i row a b c la lb lc. (prior-keeps table columns rows k group asked i row a b c la lb lc).0);
        right_before = placed-before table (right_first table k) columns rows k (q_at table k) (p_at table k) group
            (right-part table columns rows k group asked).of_term (left-part table columns rows k group asked)
            (λ i row a b c la lb lc. (prior-keeps table columns rows k group asked i row a b c la lb lc).1);
        ranked_equally = λ a b c wa wb wc i row.
            three_ways (by-test (equally table k) columns rows k group a wa i)
            (by-test (left_first table k) columns rows k group b wb i)
            (by-test (right_first table k) columns rows k group c wc i)
            (pareto-keeps table columns rows k group asked i row wa.before wb.before wc.before
            wa.long wb.long wc.long);
      }
    where
      alone : (part g : ℕ) → (part ≡ p_at table k) ⊎ (part ≡ q_at table k) → fails_group columns g ≡ false
          → (before : List ℕ) → Long columns rows before
          → Alike table (left_first table k) columns rows part g before
          × Alike table (right_first table k) columns rows part g before
          × Alike table (equally table k) columns rows part g before
      alone part g which fits before long =
          parts-alone table columns rows k g
          (record {
            is_accepted = asked.is_accepted;
            two_parts = asked.two_parts;
            rows_fit = asked.rows_fit;
            group_fits = fits;
          })
          before long part which

-- ---- none is refused

-- Query answers what can be asked,
answers : (table : List ℕ) (columns : ℕ) (rows : List ℤ) (term group : ℕ) → Asked table columns rows term group
    → Answers table columns rows term group
answers table columns rows term group asked before long = (
  _,
  (gives-and-writes table columns rows term group before
      (query-passes table columns rows term group asked before long) 0).0,
)

module _ (table : List ℕ) (columns : ℕ) (rows : List ℤ) (k group : ℕ) (asked : AskedTwo table columns rows k group) where
  abbrev p : ℕ
  p = p_at table k

  abbrev q : ℕ
  q = q_at table k

  -- each part's own record
  of_left : Asked table columns rows (p_at table k) group
  of_left = left-part table columns rows k group asked

  of_right : Asked table columns rows (q_at table k) group
  of_right = right-part table columns rows k group asked

  -- and all that is asked of two parts.
  parts-answer : PartsAnswer table columns rows k group
  parts-answer =
      record {
        left = answers (left_first table k) columns rows k group (left-placed table columns rows k group asked);
        right = answers (right_first table k) columns rows k group (right-placed table columns rows k group asked);
        ranking = answers (equally table k) columns rows k group (even-placed table columns rows k group asked);
        left_part = answers table columns rows p group of_left;
        right_part = answers table columns rows q group of_right;
        right_among = answers table columns rows q (bit_or group (columns_of (term_at table p)))
            (wider-asked table columns rows p q group of_left.of_term of_right);
        left_among = answers table columns rows p (bit_or group (columns_of (term_at table q)))
            (wider-asked table columns rows q p group of_right.of_term of_left);
      }

-- ---- the sentence

module _ (table : List ℕ) (columns : ℕ) (rows : List ℤ) (term group : ℕ) (asked : Asked table columns rows term group) where
  -- A record of two parts, asked.
  two : TwoParts table term → AskedTwo table columns rows term group
  two kinds =
      record {
        is_accepted = asked.of_term.is_accepted;
        two_parts = kinds;
        rows_fit = asked.rows_fit;
        group_fits = asked.group_fits;
      }

  -- The third signed sentence.
  pub third-sentence : ThirdSentence table columns rows term group
  third-sentence =
      record {
        irreflexive = ordered.irreflexive table columns term asked.of_term;
        transitive = ordered.transitive table columns term asked.of_term;
        compare_answers = ordered.compare-refuses-none table columns term asked.of_term;
        compare_first = ordered.compare-first table columns term asked.of_term;
        compare_same = ordered.compare_same table columns term asked.of_term;
        compare_turned = ordered.compare-turned table columns term asked.of_term;
        compare_chained = ordered.compare-chained table columns term asked.of_term;
        of_two_parts = λ kinds. of-two-parts table columns rows term group (two kinds);
        dropped = λ a w. dropped table columns rows term group a w asked;
      }

  -- None of its queries is refused.
  pub query-refuses-none : Answers table columns rows term group
      × (TwoParts table term → PartsAnswer table columns rows term group)
  query-refuses-none = (
    answers table columns rows term group asked,
    λ kinds. parts-answer table columns rows term group (two kinds),
  )
