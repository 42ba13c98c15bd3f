-- What the entries of hand stepping answer and leave: equations on every input. Definitions only.
use Rattle.std.specs.Prelude.{cond, List, ◌≡◌, ℕ, ◌-◌, ◌/◌, leb, eqb, length, Float}
use Rattle.numbers.specs.Float.{zero_f}
use Rattle.outline.specs.Outline.{Outline, first_of}
use Rattle.field_direction.specs.declared.Grid.{Grid}
use Rattle.field_direction.specs.Record.{FieldRecord}
use Rattle.field_direction.specs.Direction.{record_refusal}
use Rattle.field_cross.specs.Field.{drawn_refusal}
use Rattle.front.specs.declared.Counts.{Counts}
use Rattle.front.specs.State.{State, counted, node, next_of, quad_at}
use Rattle.hand_steps.specs.declared.StepOutcome.{StepOutcome}
use Rattle.hand_steps.specs.declared.StepOutcome.TheVariants.{Placed, None, Full, Cap}
use Rattle.hand_steps.specs.Hand.{hand_refusal, place_on, new_origins}
use Rattle.hand_previews.specs.Preview.{preview_refusal, front_listed}
use Rattle.hand_step_answers.specs.declared.StepAnswer.{StepAnswer}
use Rattle.hand_step_answers.specs.declared.PreviewAnswer.{PreviewAnswer}
use Rattle.hand_step_answers.specs.Answers.{refused_step, done_step, refused_preview, no_quad}

-- ---- the refusals, in order

-- 1 to 7, of which 7 is the box's, since no run exists on an outline with no width or no height; then 11
unfoldable pub given_refusal : Outline → Float → FieldRecord → ℕ
given_refusal o size field = first_of (drawn_refusal o size) (record_refusal field)

-- then 23 and 24
unfoldable pub step_refusal : Outline → Float → FieldRecord → ℕ → ℕ → State → ℕ
step_refusal o size field a b s = first_of (given_refusal o size field) (hand_refusal s a b)

-- of a preview, 23 covers its list too: an edge takes two numbers of it
unfoldable pub sight_refusal : Outline → Float → FieldRecord → ℕ → ℕ → State → List ℕ → ℕ
sight_refusal o size field a b s list = first_of (given_refusal o size field) (preview_refusal s (length list / 2) a b)

-- ---- a step

-- refused, or what became of the edge, with the counts after it
unfoldable pub step_reply : Outline → Float → FieldRecord → ℕ → ℕ → State → StepAnswer
step_reply o size field a b s =
    let refusal = step_refusal o size field a b s in
    let h = place_on o size field a b s in
    cond (eqb refusal 0) (done_step h.outcome h.state.counts) (refused_step refusal)

-- the mesh after it: as it was, where the step is refused
unfoldable pub step_left : Outline → Float → FieldRecord → ℕ → ℕ → State → State
step_left o size field a b s = cond (eqb (step_refusal o size field a b s) 0) (place_on o size field a b s).state s

-- the counts after an answer, of k before
abbrev pub counts_given : Counts → StepAnswer → Counts
counts_given k r = cond (eqb r.refusal 0) (counted r.nodes r.quads r.edges r.front) k

-- WHAT A HOST GETS OF A STEP on the edge a to b in s, with the numbers `before`: it answers r, and leaves t and the numbers `after`. A refused one leaves
-- every list as it was.
pub record HostSteps (o : Outline) (size : Float) (field : FieldRecord) (a b : ℕ) (s : State) (before : List ℕ) (r : StepAnswer) (t : State)
    (after : List ℕ) : Type 0 where
  pub answer : r ≡ step_reply o size field a b s
  pub state : t ≡ step_left o size field a b s
  pub origins : after ≡ new_origins a s.counts.nodes (step_left o size field a b s).counts.nodes before

-- ---- a preview

-- a coordinate of node id in t, where it is none of the first n nodes
abbrev pub new_x : ℕ → State → ℕ → Float
new_x n t id = cond (leb n id) (node t id).x zero_f

abbrev pub new_y : ℕ → State → ℕ → Float
new_y n t id = cond (leb n id) (node t id).y zero_f

-- read off the mesh t after a placing in s: the quad placed last, its nodes that s doesn't have, and the front edges
abbrev pub copy_numbers : State → StepOutcome → State → PreviewAnswer
copy_numbers s Placed t =
    let n = s.counts.nodes in
    let q = quad_at t s.counts.quads in
    record {
      refusal = 0;
      outcome = 0;
      a = q.a;
      b = q.b;
      d = q.d;
      c = q.c;
      new_nodes = t.counts.nodes - n;
      cx = new_x n t q.c;
      cy = new_y n t q.c;
      dx = new_x n t q.d;
      dy = new_y n t q.d;
      front = t.counts.front;
    }
copy_numbers s None t = no_quad 1 t.counts.front
copy_numbers s Full t = no_quad 2 t.counts.front
copy_numbers s Cap t = no_quad 3 t.counts.front

-- refused, or what a placing in a copy of the mesh leaves there
unfoldable pub preview_reply : Outline → Float → FieldRecord → ℕ → ℕ → State → List ℕ → PreviewAnswer
preview_reply o size field a b s list =
    let refusal = sight_refusal o size field a b s list in
    let h = place_on o size field a b s in
    cond (eqb refusal 0) (copy_numbers s h.outcome h.state) (refused_preview refusal)

-- the list after it: the copy's front edges by their first node; places past them, and a refused preview's, keep their contents
unfoldable pub preview_left : Outline → Float → FieldRecord → ℕ → ℕ → State → List ℕ → List ℕ
preview_left o size field a b s list =
    let t = (place_on o size field a b s).state in
    cond (eqb (sight_refusal o size field a b s list) 0) (front_listed t.counts.nodes (next_of t) list).list list

-- WHAT A HOST GETS OF A PREVIEW of the edge a to b in s, which is only read: it answers r, and leaves the list as `after`
pub record HostPreviews (o : Outline) (size : Float) (field : FieldRecord) (a b : ℕ) (s : State) (before : List ℕ) (r : PreviewAnswer) (after : List ℕ)
    : Type 0 where
  pub answer : r ≡ preview_reply o size field a b s before
  pub list : after ≡ preview_left o size field a b s before

-- ---- what the code puts together

abbrev pub grid_given : Float → Float → Float → ℕ → ℕ → Grid
grid_given xmin ymin h nx ny = record { xmin = xmin; ymin = ymin; h = h; nx = nx; ny = ny }
