-- Steps as data: past a frame, and into a nested statement.
use Rattle.std.proofs.Common.{◌≡◌, ℕ, ◌+◌, ◌-◌, ◌*◌, ◌<◌, ◌≤◌, List, [], ◌∷◌, ◌++◌, ◌∙◌, refl, ap, subst, true, append_assoc, length, arith}
use Rattle.std.specs.Prelude.{Option, Some, None, Result, IsErrAnd}
use Rattle.tokens.specs.declared.located_tokens.Keyword.{Keyword}
use Rattle.tokens.specs.Tokens.{is_last}
use Rattle.grammar.specs.declared.actions.Action.{Action}
use Rattle.grammar.specs.declared.diagnostics.ParseFault.{ParseFault}
use Rattle.grammar.specs.declared.name_limits.TheConstants.{MOST_NESTED}
use Rattle.grammar.specs.Building.{Representation}
use Rattle.grammar.specs.Derivation.{PartialTree, trees_after}
use Rattle.grammar.specs.Faults.{nested_count}
use Rattle.grammar.specs.Grammar.{AKeyword, Close, Define, Empty, Item, Part, SemanticAction, Statement, is_keyword}
use Rattle.grammar_laws.specs.Emission.{and_then, on_body, on_rule}
use Rattle.parser.specs.declared.automaton.Automaton.{Automaton}
use Rattle.parser.specs.declared.frames.Frame.{Frame}
use Rattle.parser.specs.declared.frames.Front.{Front}
use Rattle.parser.specs.declared.frames.Front.TheVariants as front
use Rattle.parser.specs.declared.frames.Next.{Next}
use Rattle.parser.specs.declared.frames.Next.TheVariants as next
use Rattle.parser.specs.declared.frames.Terminal.{Terminal}
use Rattle.parser.specs.declared.frames.Terminal.TheVariants as terminal
use Rattle.parser.specs.declared.frames.TheConstants.{MOST_FRAMES}
use Rattle.parser.specs.Automata.{IsTooDeep, Moves, Stands, Start, Takes, frame_items, rank, stack_of}
use Rattle.parser.specs.FrameSteps.{BeginsNested, CanClose, Emits, IsStep, Waits, begun_items, depth_at, due, frames_at, front_at, next_items, rule_items, rule_of, terminal_items}
use Rattle.parser.specs.Paths.{HasTold, Origin, Path}
use Rattle.parser.specs.ScopedCursors.{ScopedCursor, scope_of, token_of}
use Rattle.parser.proofs.AutomatonLaws.{awaits, comes_to, nests, place}
use Rattle.parser.proofs.Parts.{word_is}
use Rattle.parser.proofs.Passing.{passed_on}
use Rattle.parser.proofs.PathLaws.{IsInside, closed, made, opened}
use Rattle.parser.proofs.Productions.{chooses_any, token_too_deep}

-- What comes next is in front.

pub goes_to : {F B : Type 0} {o : Start B} {stands : B → Representation} {old : Front} {at new : Automaton F B}
    {values : List PartialTree} {acts : List Action} (behind : Next) (frames : List Frame) (depth : ℕ) →
    Stands o stands old at → new.frames ≡ frames_at behind frames → new.depth ≡ depth_at behind depth →
    Path o.origin (next_items behind ++ stack_of frames) values acts new.tokens →
    HasTold (stands o.builder) (stands new.builder.now) acts →
    nested_count (next_items behind ++ stack_of frames) ≡ depth → depth ≤ MOST_NESTED → Takes 0 frames →
    Waits behind frames → Stands o stands (front_at behind) new
goes_to {values = values} (next.Statement f) frames depth h fs d path told count few takes waits =
    comes_to {values = values} h (rw fs path) told (rw (fs, d) count) (rw d few) (rw fs waits)
goes_to {values = values} (next.Expression f) frames depth h fs d path told count few takes waits =
    comes_to {values = values} h (rw fs path) told (rw (fs, d) count) (rw d few)
    (rw fs (awaits waits.0 (waits.1 values)))
goes_to {values = values} next.Close frames depth h fs d path told count few takes waits =
    comes_to {values = values} h (closed (rw fs path)) told (rw (fs, d) (omega (arith, count)))
    (rw d (omega (arith, few)))
    (record { level = 0; takes = rw fs takes; ends = tt })
goes_to {values = values} next.End frames depth h fs d path told count few takes waits =
    comes_to {values = values} h (rw fs path) told (rw (fs, d) count) (rw d few)
    (record { level = 0; takes = rw fs takes; ends = tt })

-- there is a place for its frame
pub has_place : (behind : Next) (frames : List Frame) (depth : ℕ) → Takes 0 frames →
    nested_count (next_items behind ++ stack_of frames) ≡ depth → depth ≤ MOST_NESTED → length frames < MOST_FRAMES
has_place behind frames depth takes count few =
    place frames takes (omega (arith, below (next_items behind) (stack_of frames), count, few))
  where
    below : (items stack : List Item) → nested_count stack ≤ nested_count (items ++ stack)
    below [] stack = omega arith
    below (Close ∷ items) stack = omega (arith, below items stack)
    below (item ∷ items) stack = below items stack

pub can_close : (behind : Next) (frames : List Frame) (depth : ℕ) →
    nested_count (next_items behind ++ stack_of frames) ≡ depth → CanClose behind depth
can_close (next.Statement f) frames depth count = tt
can_close (next.Expression f) frames depth count = tt
can_close next.Close frames depth count = omega (arith, count)
can_close next.End frames depth count = tt

-- less is left, if a frame was taken or a token was passed
pub left_behind : (behind : Next) (frames : List Frame) →
    2 * length (frames_at behind frames) + rank (front_at behind) ≤ 2 * length frames + 6
left_behind (next.Statement f) frames = omega arith
left_behind (next.Expression f) frames = omega arith
left_behind next.Close frames = omega arith
left_behind next.End frames = omega arith

-- Past a frame.

past_terminal : (first : Option Terminal) (stack : List Item) →
    nested_count (terminal_items first ++ stack) ≡ nested_count stack
past_terminal None stack = refl
past_terminal (Some (terminal.Punctuator m)) stack = refl
past_terminal (Some (terminal.Keyword w)) stack = refl

past_rule : (action : Option Action) (rule : SemanticAction) (stack : List Item) →
    nested_count (rule_items action rule ++ stack) ≡ nested_count stack
past_rule None rule stack = refl
past_rule (Some a) rule stack = refl

module _ {f : Frame} {first second : Option Terminal} {action : Option Action} {behind : Next}
    (step : IsStep f first second action behind) (stack : List Item) where
  step_items : frame_items f ++ stack ≡
      terminal_items first ++ (terminal_items second ++ (rule_items action (rule_of f) ++ (next_items behind ++ stack)))
  step_items =
      ap (λ (items : List Item). items ++ stack) step.items
      ∙ append_assoc (terminal_items first) _ stack
      ∙ ap (λ (items : List Item). terminal_items first ++ items) (append_assoc (terminal_items second) _ stack
      ∙ ap (λ (items : List Item). terminal_items second ++ items)
      (append_assoc (rule_items action (rule_of f)) (next_items behind) stack))

  pub stepped : {o : Origin} {values : List PartialTree} {acts : List Action} {at : ScopedCursor} →
      Path o (frame_items f ++ stack) values acts at →
      Path o (terminal_items first ++ (terminal_items second ++ (rule_items action (rule_of f)
      ++ (next_items behind ++ stack)))) values acts at
  stepped {o} {values} {acts} {at} h = subst (λ (items : List Item). Path o items values acts at) step_items h

  -- as many constructs are open behind the tokens and the action
  pub counted : nested_count (next_items behind ++ stack) ≡ nested_count (frame_items f ++ stack)
  counted =
      rw (step_items, past_terminal first, past_terminal second, past_rule action (rule_of f)) refl

single : (rule : SemanticAction) (stack : List Item) (values : List PartialTree) (variables : ℕ) (a : Action) →
    on_rule rule stack values variables ≡ a ∷ [] → IsInside rule
single Define stack values variables a e = absurd (cc)
single rule stack values variables a e = tt

abbrev pub made_values : Option Action → SemanticAction → List PartialTree → List PartialTree
made_values None rule values = values
made_values (Some a) rule values = trees_after rule values

pub acted : {o : Origin} {stack : List Item} {values : List PartialTree} {acts : List Action} {at : ScopedCursor}
    (action : Option Action) (rule : SemanticAction) → Emits action rule stack →
    Path o (rule_items action rule ++ stack) values acts at →
    Path o stack (made_values action rule values) (and_then acts (due action)) at
acted None rule e h = h
acted {stack = stack} {values = values} (Some a) rule e h =
    rw (e _ _) at (made rule (single rule stack values 0 a (e values 0)) h)

-- Into a nested statement.

module _ {word : Keyword} {action : Option Action} {first : Option Terminal} {behind : Next}
    (begins : BeginsNested word action first behind) where
  pub word_path : {o : Origin} {stack : List Item} {values : List PartialTree} {acts : List Action}
      {at : ScopedCursor} → is_keyword word (token_of at) ≡ true → nested_count stack < MOST_NESTED →
      Path o (Part Statement ∷ stack) values acts at →
      Path o (AKeyword word ∷ (terminal_items first ++ (begun_items behind ++ stack))) values
      (and_then acts (due action)) at
  word_path {o} {stack} {values} {acts} {at} is few h =
      let here = word_is word (token_of at) is in
      subst (λ (items : List Item). Path o (AKeyword word ∷ items) values (and_then acts (due action)) at)
      (append_assoc (terminal_items first) (begun_items behind) stack)
      (opened Statement (AKeyword word ∷ (terminal_items first ++ begun_items behind))
      (λ after last. rw here (begins.chosen after)) few (rw here (begins.emits (scope_of at))) h)

  -- the most constructs are open
  pub word_nests : {F B : Type 0} (denied : Type 0) (stands : B → Representation) {at : Automaton F B}
      (result : Result Front ParseFault) {f : ParseFault} → IsErrAnd result (λ e. e ≡ f) → IsTooDeep at f →
      is_keyword word (token_of at.tokens) ≡ true → Moves result denied stands front.Statement at at
  word_nests denied stands {at = at} result is deep starts =
      let here = word_is word (token_of at.tokens) starts in
      rw (passed_on result is) (λ o h.
      nests h.path h.depth deep (λ depth.
      token_too_deep _ _ h.path.ready.near depth Statement (AKeyword word) (terminal_items first ++ begun_items behind)
      (chooses_any h.path.ready.sound (λ after. rw here (begins.chosen after)))
      (λ after more. rw here (begins.enters after)) starts))

-- a body begins
abbrev pub begun_values : Next → List PartialTree → List PartialTree
begun_values (next.Statement f) values = trees_after Empty values
begun_values behind values = values

pub begun : {o : Origin} {values : List PartialTree} {acts : List Action} {at : ScopedCursor} (behind : Next)
    (stack : List Item) → on_body (next_items behind ++ stack) ≡ [] →
    Path o (begun_items behind ++ stack) values acts at →
    Path o (next_items behind ++ stack) (begun_values behind values) acts at
begun (next.Statement f) stack silent h = rw silent at (made Empty tt h)
begun behind stack silent h = h
