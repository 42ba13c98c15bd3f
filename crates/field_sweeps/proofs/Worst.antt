-- What holds of the definitions of proofs/WorstBase.antt.
use Rattle.std.specs.Prelude.{◌≡◌, refl, Bool, true, false, not, ◌&&◌, cond, List, ℕ, ◌*◌, ◌^◌, T, eqb, ℤ, get_or, Float}
use Rattle.std.proofs.Common.{ap, ◌∙◌, subst, true≢false}
use Rattle.std.specs.Int.Signed.{<ℤ-≤ℤ_trans, clash_ℤ}
use Rattle.std.specs.Float.{nan, inf, fin, binary64}
use Rattle.std.specs.Float.Ieee.{fits, is_nan, lt, le, eq, of_bits}
use Rattle.std.specs.Float.Ieee.Fits.{add-fits}
use Rattle.std.specs.Float.Ieee.Bits.{of_bits-fits}
use Rattle.laws.specs.Loop.{for_up_related}
use Rattle.laws.proofs.Certificate.{<ℤ_weaken}
use Rattle.numbers.specs.Float.{◌⊖◌, zero_f, is_finite, abs_f, max_f}
use Rattle.exact.specs.Units.{W, Val, val_of, size_of}
use Rattle.exact.proofs.Order.{lt_val, le_val, not_le_val}
use Rattle.outline.specs.declared.Point.{Point}
use Rattle.outline.specs.Outline.{point_at}
use Rattle.field_direction.specs.declared.Grid.{Grid}
use Rattle.field_direction.proofs.RecordLaws.{true_of}
use Rattle.field_direction.specs.Record.{node_at}
use Rattle.field_averages.specs.Average.{average}
use Rattle.field_sweeps.specs.Sweeps.{steady, SweptField, swept, change, set_value, relaxed, sweep_node, sweep_row, sweep}
use Rattle.field_sweeps.proofs.WorstBase.{SweptWorst, changed, changed_node, changed_row, changed_sweep}

-- ---- one change

and_false : (b : Bool) → b && false ≡ false
and_false true = refl
and_false false = refl

and_true : (b : Bool) → b && true ≡ b
and_true true = refl
and_true false = refl

steady_units : ℕ
steady_units = 944473296573929 * 2 ^ 1001

steady_val : Val steady false steady_units
unfolding W of_bits steady_units
steady_val = (refl, refl)

-- a finite c is below 1e-7 exactly if it isn't 1e-7 or more
total : (c : Float) (t : Bool) (b : ℕ) → Val c t b → not (le steady c) ≡ lt c steady
total c t b q = pick (le steady c) refl (lt c steady) refl
  where
    pick : (x : Bool) → le steady c ≡ x → (y : Bool) → lt c steady ≡ y → not x ≡ y
    pick true e true f = clash_ℤ ((lt_val c steady t false b steady_units q steady_val).0 (rw f tt))
        ((le_val steady c false t steady_units b steady_val q).0 (rw e tt))
    pick true e false f = refl
    pick false e true f = refl
    pick false e false f = absurd (subst T f
        ((lt_val c steady t false b steady_units q steady_val).1 ((not_le_val steady c false t steady_units b steady_val q).0 (rw e tt))))

-- of two numbers that are finite: where w is below c the maximum is c, and else w
module _ (w c : Float) (s t : Bool) (a b : ℕ) (p : Val w s a) (q : Val c t b) where
  -- what is below something below 1e-7 is below 1e-7
  w_below : lt w c ≡ true → lt c steady ≡ true → lt w steady ≡ true
  w_below e f = true_of (lt w steady) ((lt_val w steady s false a steady_units p steady_val).1
      (<ℤ-≤ℤ_trans ((lt_val w c s t a b p q).0 (rw e tt)) (<ℤ_weaken ((lt_val c steady t false b steady_units q steady_val).0 (rw f tt)))))

  -- and where w is not below c, c is below 1e-7 if w is
  c_below : lt w c ≡ false → lt w steady ≡ true → le steady c ≡ false
  c_below e f = pick (le steady c) refl
    where
      pick : (x : Bool) → le steady c ≡ x → x ≡ false
      pick false g = refl
      pick true g =
          absurd (subst T e ((lt_val w c s t a b p q).1
          (<ℤ-≤ℤ_trans ((lt_val w steady s false a steady_units p steady_val).0 (rw f tt))
          ((le_val steady c false t steady_units b steady_val q).0 (rw g tt)))))

  finite_step : lt w steady && not (le steady c) ≡ lt (cond (lt w c) c w) steady
  finite_step = pick (lt w c) refl
    where
      pick : (x : Bool) → lt w c ≡ x → lt w steady && not (le steady c) ≡ lt (cond x c w) steady
      pick true e = rw (total c t b q) (both (lt c steady) refl)
        where
          both : (y : Bool) → lt c steady ≡ y → lt w steady && y ≡ y
          both true f = rw (w_below e f)
          both false f = and_false (lt w steady)
      pick false e = both (lt w steady) refl
        where
          both : (y : Bool) → lt w steady ≡ y → y && not (le steady c) ≡ y
          both true f = rw (c_below e f)
          both false f = refl

finite_max : (s t : Bool) (k m : ℕ) (d e : ℤ) → T (fits binary64 (fin s k d)) → T (fits binary64 (fin t m e))
    → lt (fin s k d) steady && not (le steady (fin t m e)) ≡ lt (max_f (fin s k d) (fin t m e)) steady
unfolding max_f is_nan is_finite
finite_max s t k m d e hw hc =
    let w = fin s k d in
    let c = fin t m e in
    finite_step w c s t (size_of w) (size_of c) (val_of w tt hw) (val_of c tt hc)

finite_total : (t : Bool) (m : ℕ) (e : ℤ) → T (fits binary64 (fin t m e)) → not (le steady (fin t m e)) ≡ lt (fin t m e) steady
unfolding is_finite
finite_total t m e hc = total (fin t m e) t (size_of (fin t m e)) (val_of (fin t m e) tt hc)

-- any change, a NaN and an infinity too, after any number
step : (w c : Float) → T (fits binary64 w) → T (fits binary64 c) → is_nan w ≡ false → lt w steady && not (le steady c) ≡ lt (max_f w c) steady
unfolding max_f is_nan lt le eq of_bits
step nan c hw hc n = absurd (true≢false n)
step (inf true) nan hw hc n = refl
step (inf false) nan hw hc n = refl
step (inf true) (inf true) hw hc n = refl
step (inf true) (inf false) hw hc n = refl
step (inf false) (inf true) hw hc n = refl
step (inf false) (inf false) hw hc n = refl
step (inf true) (fin t m e) hw hc n = finite_total t m e hc
step (inf false) (fin t m e) hw hc n = refl
step (fin s k d) nan hw hc n = and_true (lt (fin s k d) steady)
step (fin s k d) (inf true) hw hc n = and_true (lt (fin s k d) steady)
step (fin s k d) (inf false) hw hc n = and_false (lt (fin s k d) steady)
step (fin s k d) (fin t m e) hw hc n = finite_max s t k m d e hw hc

max_number : (w c : Float) → is_nan w ≡ false → is_nan (max_f w c) ≡ false
unfolding max_f is_nan lt
max_number nan c n = absurd (true≢false n)
max_number (inf s) nan n = refl
max_number (fin s k d) nan n = refl
max_number (inf s) (inf t) n = pick (lt (inf s) (inf t))
  where
    pick : (x : Bool) → is_nan (cond x (inf t) (inf s)) ≡ false
    pick true = refl
    pick false = refl
max_number (inf s) (fin t m e) n = pick (lt (inf s) (fin t m e))
  where
    pick : (x : Bool) → is_nan (cond x (fin t m e) (inf s)) ≡ false
    pick true = refl
    pick false = refl
max_number (fin s k d) (inf t) n = pick (lt (fin s k d) (inf t))
  where
    pick : (x : Bool) → is_nan (cond x (inf t) (fin s k d)) ≡ false
    pick true = refl
    pick false = refl
max_number (fin s k d) (fin t m e) n = pick (lt (fin s k d) (fin t m e))
  where
    pick : (x : Bool) → is_nan (cond x (fin t m e) (fin s k d)) ≡ false
    pick true = refl
    pick false = refl

change_fits : (old new : Point) → T (fits binary64 (change old new))
unfolding change
change_fits old new = add-fits binary64 (abs_f (new.x ⊖ old.x)) (abs_f (new.y ⊖ old.y))

-- the greater of two floats of 64 bits is one
max_fits : (x y : Float) → T (fits binary64 x) → T (fits binary64 y) → T (fits binary64 (max_f x y))
unfolding max_f
max_fits x y f g = decide (is_nan x) (lt x y)
  where
    decide : (a b : Bool) → T (fits binary64 (cond a y (cond b y x)))
    decide true b = g
    decide false true = g
    decide false false = f

-- ---- the sweeps

record Same (s : SweptField) (t : SweptWorst) : Type 0 where
  values : s.values ≡ t.values
  quiet : s.quiet ≡ lt t.worst steady
  held : T (fits binary64 t.worst)
  number : is_nan t.worst ≡ false

node_same : (g : Grid) (marks : List ℕ) (j i : ℕ) (s : SweptField) (t : SweptWorst) → Same s t
    → Same (sweep_node g marks j i s) (changed_node g marks j i t)
unfolding sweep_node relaxed changed_node
node_same g marks j i s t r = pick (eqb (get_or marks (node_at g i j) 0) 0)
  where
    id : ℕ
    id = node_at g i j

    moved : List Float → Float
    moved values = change (point_at values id) (average g values j i)

    after : SweptWorst
    after = changed (set_value t.values id (average g t.values j i)) (max_f t.worst (moved t.values))

    pick : (x : Bool) → Same (cond x (relaxed g j i s) s) (cond x after t)
    pick false = r
    pick true = record {
      values = ap (λ (values : List Float). set_value values id (average g values j i)) r.values;
      quiet = ap (λ (b : Bool). b && not (le steady (moved s.values))) r.quiet
          ∙ ap (λ (values : List Float). lt t.worst steady && not (le steady (moved values))) r.values
          ∙ step t.worst (moved t.values) r.held (change_fits (point_at t.values id) (average g t.values j i)) r.number;
      held = max_fits t.worst (moved t.values) r.held (change_fits (point_at t.values id) (average g t.values j i));
      number = max_number t.worst (moved t.values) r.number;
    }

zero_number : is_nan zero_f ≡ false
unfolding of_bits is_nan
zero_number = refl

zero_quiet : true ≡ lt zero_f steady
unfolding of_bits lt
zero_quiet = refl

sweep_same : (g : Grid) (marks : List ℕ) (values : List Float) → Same (sweep g marks values) (changed_sweep g marks values)
unfolding sweep sweep_row changed_sweep changed_row
sweep_same g marks values =
    for_up_related Same g.ny (sweep_row g marks) (changed_row g marks) (swept values true) (changed values zero_f)
    (record { values = refl; quiet = zero_quiet; held = of_bits-fits binary64 0; number = zero_number })
    (λ j s t r. for_up_related Same g.nx (sweep_node g marks j) (changed_node g marks j) s t r (λ i s t r. node_same g marks j i s t r))

-- the same values, and a quiet sweep is one whose greatest change is below 1e-7
pub sweep_worst : (g : Grid) (marks : List ℕ) (values : List Float)
    → ((sweep g marks values).values ≡ (changed_sweep g marks values).values)
    × ((sweep g marks values).quiet ≡ lt (changed_sweep g marks values).worst steady)
sweep_worst g marks values = let r = sweep_same g marks values in (r.values, r.quiet)
