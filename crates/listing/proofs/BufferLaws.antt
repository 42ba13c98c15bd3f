-- Writing in pieces, and what a buffer holds in the end.
use Rattle.std.specs.Prelude.{◌≡◌, refl, Bool, true, false, cond, List, [], ◌∷◌, ◌++◌, ℕ, zero, suc, ◌+◌, ◌≤◌, ◌<◌, ltb, length, take, drop, set}
use Rattle.std.proofs.Common.{sym, ap, ap₂, ◌∙◌, add-one, arith, length-set, length-take, take_all, lt-ltb, le-ltb}
use Rattle.std.proofs.lemmas.List.Edits.{sets, sets-eq}
use Rattle.listing.specs.Buffer.{Buffer, buffer, put, puts, Wrote, buffer_written}

-- ---- pieces

pub puts_append : (a b : List ℕ) (p : Buffer) → puts (a ++ b) p ≡ puts b (puts a p)
unfolding puts
puts_append [] b p = refl
puts_append (x ∷ a) b p = puts_append a b (put x p)

-- one piece after the other
pub then : {a b : List ℕ} {p q r : Buffer} → Wrote a p q → Wrote b q r → Wrote (a ++ b) p r
then {a} {b} {p} e f = record { same = f.same ∙ ap (puts b) e.same ∙ sym (puts_append a b p) }

-- the same bytes by another name
pub wrote_as : {l m : List ℕ} {p q : Buffer} → l ≡ m → Wrote m p q → Wrote l p q
wrote_as {p = p} e w = record { same = w.same ∙ ap (λ (b : List ℕ). puts b p) (sym e) }

pub nothing : (p : Buffer) → Wrote [] p p
unfolding puts
nothing p = record { same = refl }

put_in : (b : ℕ) (s : List ℕ) (at : ℕ) → at < length s → put b (buffer s at) ≡ buffer (set s at b) (at + 1)
unfolding put
put_in b s at h = rw (lt-ltb at (length s) h)

put_out : (b : ℕ) (s : List ℕ) (at : ℕ) → length s ≤ at → put b (buffer s at) ≡ buffer s at
unfolding put
put_out b s at h = rw (le-ltb at (length s) h)

-- what the code does with one byte
pub wrote_in : (b : ℕ) (s : List ℕ) (at : ℕ) → at < length s → Wrote (b ∷ []) (buffer s at) (buffer (set s at b) (at + 1))
unfolding puts
wrote_in b s at h = record { same = sym (put_in b s at h) }

pub wrote_out : (b : ℕ) (s : List ℕ) (at : ℕ) → length s ≤ at → Wrote (b ∷ []) (buffer s at) (buffer s at)
unfolding puts
wrote_out b s at h = record { same = sym (put_out b s at h) }

-- ---- no place is added or lost

put_length : (b : ℕ) (p : Buffer) → length (put b p).bytes ≡ length p.bytes
unfolding put
put_length b p = pick (ltb p.used (length p.bytes))
  where
    pick : (t : Bool) → length (cond t (buffer (set p.bytes p.used b) (p.used + 1)) p).bytes ≡ length p.bytes
    pick true = length-set p.bytes p.used b
    pick false = refl

pub puts_length : (l : List ℕ) (p : Buffer) → length (puts l p).bytes ≡ length p.bytes
unfolding puts
puts_length [] p = refl
puts_length (b ∷ l) p = puts_length l (put b p) ∙ put_length b p

-- ---- the buffer in the end

full_stays : (l s : List ℕ) (at : ℕ) → length s ≤ at → puts l (buffer s at) ≡ buffer s at
unfolding puts
full_stays [] s at h = refl
full_stays (b ∷ l) s at h = ap (puts l) (put_out b s at h) ∙ full_stays l s at h

-- k places are left
puts_cut : (k : ℕ) (l s : List ℕ) (at : ℕ) → at + k ≡ length s
    → puts l (buffer s at) ≡ buffer (sets s at (take k l)) (at + length (take k l))
unfolding puts
puts_cut zero l s at h = full_stays l s at (omega arith) ∙ ap (buffer s) (omega arith)
puts_cut (suc k) [] s at h = ap (buffer s) (omega arith)
puts_cut (suc k) (b ∷ l) s at h =
    ap (puts l) (put_in b s at (omega arith) ∙ ap (buffer (set s at b)) (add-one at))
    ∙ puts_cut k l (set s at b) (suc at) (omega (arith, length-set s at b))
    ∙ ap (buffer (sets (set s at b) (suc at) (take k l))) (omega arith)

puts_written : (l s : List ℕ) → puts l (buffer s 0) ≡ buffer_written l s
unfolding buffer_written
puts_written l s =
    let cut : List ℕ = take (length s) l in
    let room : 0 + length cut ≤ length s = simp length-take (omega arith) in
    let start : 0 + length cut ≡ length cut = omega arith in
    puts_cut (length s) l s 0 (omega arith)
    ∙ ap₂ buffer (sets-eq cut s 0 room ∙ ap (λ (n : ℕ). cut ++ drop n s) start) start

pub wrote_written : {l s : List ℕ} {p : Buffer} → Wrote l (buffer s 0) p → p ≡ buffer_written l s
wrote_written {l} {s} w = w.same ∙ puts_written l s

-- where there is room, all of l is in front
pub written_whole : (l s : List ℕ) → length l ≤ length s → buffer_written l s ≡ buffer (l ++ drop (length l) s) (length l)
unfolding buffer_written
written_whole l s h = rw (take_all (length s) l h)
