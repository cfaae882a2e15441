-- From the trees of a source to the rows of its file.
use Rattle.std.specs.Prelude.{◌≡◌, ℕ, ◌<◌, ◌≤◌, ◌⊎◌, List, [], ◌∷◌, ◌++◌, Bool, true, false, length, map, nat_lt, Option}
use Rattle.std.specs.Prelude.{if◌then◌else◌, ◌==◌}
use Rattle.std.proofs.Common.{refl, ap, sym, ◌∙◌, subst, arith, inl, inr}
use Rattle.std.proofs.lemmas.Bool.{cases_lt, ltb-false}
use Rattle.std.proofs.lemmas.Bool.Decides.{Decides-eqb}
use Rattle.std.proofs.lemmas.List.{get_or_past}
use Rattle.grammar.specs.Profile.{Profile}
use Rattle.grammar.specs.Resolved.{IsAmong, IsResolved}
use Rattle.grammar.specs.Tree.{Body, Done, File}
use Rattle.grammar.specs.Tree as tree
use Rattle.grammar.specs.Pools.{Pools}
use Rattle.code.specs.Functions.{no_function}
use Rattle.parser.specs.ParsedFiles.{ParsesToFile}
use Rattle.trees.specs.TreeMakers.{TreeMaker, TreeMakerRepresents}
use Rattle.room.proofs.BoundLaws.{trees_are}
use Rattle.room.proofs.TableLaws.{as_many, told_are, told_at}
use Rattle.trees.specs.Laws.{UnnamedFunction, told_functions, told_trees}
use Rattle.trees.specs.Trees.{body_tree}
use Rattle.trees.specs.declared.tree.Function.{Function}
use Rattle.cycles.specs.declared.counted.Counted.{Counted}
use Rattle.cycles.specs.declared.counted.Counted.TheVariants.{Cycles}
use Rattle.cycles.specs.declared.loops.Turn.{Turn}
use Rattle.cycles.specs.declared.runs.Run.{Run}
use Rattle.cycles.specs.declared.runs.Runs.{Runs}
use Rattle.cycles.specs.declared.sources.SourceSpans.{SourceSpans}
use Rattle.cycles.specs.Files.{AreSpansOf, HasRows, run_row, turn_row, turn_rows}
use Rattle.cycles.specs.Loops.{Loop, all_rows, loops_of, row_of, rows_of}
use Rattle.cycles.specs.Runs.{body_at, run_span, run_within}
use Rattle.cycles.specs.Tables.{HasRuns, body_numbered, first_numbered, row_in, rows_in}
use Rattle.cycles.specs.Told.{told_end}
use Rattle.cycles.specs.Turns.{turn_of}

-- The statements of functions by number.

abbrev told_body : List UnnamedFunction → ℕ → Body
told_body [] k = Done
told_body (t ∷ ts) k = if t.number == k then t.body else told_body ts k

first_told : (fs : List Function) (k : ℕ) → first_numbered fs k ≡ told_body (told_trees fs) k
first_told [] k = refl
first_told (f ∷ fs) k =
    ap (λ (b : Body). if f.number == k then body_tree f.body.items else b) (first_told fs k)

module _ (file : File) where
  body_there : (ks : List ℕ) (k : ℕ) → IsAmong k ks → told_body (map (told_at file) ks) k ≡ body_at file k
  body_there [] k among = absurd among
  body_there (j ∷ ks) k among = by (j == k) refl among (λ later. body_there ks k later)
    where
      by : (b : Bool) → (j == k) ≡ b → IsAmong k (j ∷ ks) →
          (IsAmong k ks → told_body (map (told_at file) ks) k ≡ body_at file k) →
          (if b then body_at file j else told_body (map (told_at file) ks) k) ≡ body_at file k
      by true is among later = ap (body_at file) ((Decides-eqb j k).0 is)
      by false is (inl same) later =
          let both : true ≡ false = sym ((Decides-eqb j k).1 (sym same)) ∙ is in
          absurd (cc)
      by false is (inr among) later = later among

  body_nowhere : (ks : List ℕ) (k : ℕ) → (IsAmong k ks → ⊥) → told_body (map (told_at file) ks) k ≡ Done
  body_nowhere [] k apart = refl
  body_nowhere (j ∷ ks) k apart = by (j == k) refl (body_nowhere ks k (λ among. apart (inr among)))
    where
      by : (b : Bool) → (j == k) ≡ b → told_body (map (told_at file) ks) k ≡ Done →
          (if b then body_at file j else told_body (map (told_at file) ks) k) ≡ Done
      by true is later = absurd (apart (inl (sym ((Decides-eqb j k).0 is))))
      by false is later = later

  no_body : (k : ℕ) → length file.functions ≤ k → Done ≡ body_at file k
  no_body k past = sym (ap (λ (f : tree.Function). f.body) (get_or_past file.functions k no_function past))

module _ (file : File) (resolved : IsResolved file) (made : List Function)
    (same : told_functions file.functions file.order ≡ told_trees made) where
  made_body : (k : ℕ) → first_numbered made k ≡ body_at file k
  made_body k =
      first_told made k ∙ ap (λ (ts : List UnnamedFunction). told_body ts k)
      (told_are file resolved made same) ∙
      by (cases_lt k (length file.functions))
    where
      by : (k < length file.functions) ⊎ (length file.functions ≤ k) →
          told_body (map (told_at file) file.order) k ≡ body_at file k
      by (inl less) = body_there file file.order k (resolved.defined k less)
      by (inr past) =
          body_nowhere file file.order k (λ among. absurd (omega (arith, resolved.only k among, past))) ∙
          no_body file k past

  bodies_are : (k : ℕ) → body_numbered made k ≡ body_at file k
  bodies_are k = by (nat_lt k 256) refl
    where
      by : (b : Bool) → nat_lt k 256 ≡ b → (if b then first_numbered made k else Done) ≡ body_at file k
      by true is = made_body k
      by false is =
          let past : 256 ≤ k = ltb-false k 256 is in
          no_body file k (omega (arith, past, resolved.functions))

  -- what is known of the trees' functions is known of the file's
  pub runs_are : (table : Runs) (u : Counted) (p : Profile) →
      HasRuns table (run_within u p (body_numbered made) (length made)) → HasRuns table (run_span u p file)
  runs_are table u p known =
      let bodies : body_numbered made ≡ body_at file = λ i k. bodies_are k i in
      subst (λ (n : ℕ). HasRuns table (run_within u p (body_at file) n))
      (as_many file resolved made same)
      (subst (λ (bodies : ℕ → Body). HasRuns table (run_within u p bodies (length made))) bodies known)

-- Rows, by what is told of functions.

abbrev rows_told : (ℕ → Run) → List UnnamedFunction → List Run
rows_told row ts = map (λ (t : UnnamedFunction). row t.number) ts

module _ (row : ℕ → Loop → Turn) where
  abbrev turns_told : List UnnamedFunction → List Turn
  turns_told [] = []
  turns_told (t ∷ ts) = map (row t.number) (loops_of t.body) ++ turns_told ts

module _ (asked : Counted) (p : Profile) (file : File) (resolved : IsResolved file) (made : List Function)
    (same : told_functions file.functions file.order ≡ told_trees made) (c q : Runs)
    (knows : HasRuns c (run_span Cycles p file)) (answers : HasRuns q (run_span asked p file)) where
  abbrev row : ℕ → Run
  row = run_row asked p file

  runs_of_trees : (fs : List Function) → rows_in c q fs ≡ rows_told row (told_trees fs)
  runs_of_trees [] = refl
  runs_of_trees (f ∷ fs) =
      let first : row_in c q f ≡ row f.number =
      λ i. record {
        function = f.number;
        cycles = knows.each f.number i;
        questions = answers.each f.number i;
      } in
      ap (λ (r : Run). r ∷ rows_in c q fs) first ∙ ap (λ (rs : List Run). row f.number ∷ rs) (runs_of_trees fs)

  runs_of_file : (ks : List ℕ) → rows_told row (map (told_at file) ks) ≡ map row ks
  runs_of_file [] = refl
  runs_of_file (k ∷ ks) = ap (λ (rs : List Run). row k ∷ rs) (runs_of_file ks)

  runs_rows : rows_in c q made ≡ map row file.order
  runs_rows =
      runs_of_trees made ∙ ap (rows_told row) (told_are file resolved made same) ∙ runs_of_file file.order

  turns_of_trees : (fs : List Function) →
      all_rows c q (run_span Cycles p file) (run_span asked p file) fs ≡
      turns_told (row_of c q (run_span Cycles p file) (run_span asked p file)) (told_trees fs)
  turns_of_trees [] = refl
  turns_of_trees (f ∷ fs) =
      ap
      (λ (ts : List Turn).
      rows_of c q (run_span Cycles p file) (run_span asked p file) f.number (body_tree f.body.items) ++ ts)
      (turns_of_trees fs)

  turns_of_file : (ks : List ℕ) → turns_told (turn_row asked p file) (map (told_at file) ks) ≡ turn_rows asked p file ks
  turns_of_file [] = refl
  turns_of_file (k ∷ ks) =
      ap (λ (ts : List Turn). map (turn_row asked p file k) (loops_of (body_at file k)) ++ ts) (turns_of_file ks)

  module _ (by : c.counted ≡ Cycles) (goes : c.profile ≡ p) (other_by : q.counted ≡ asked) (other_goes : q.profile ≡ p)
    where
      rows_are : row_of c q (run_span Cycles p file) (run_span asked p file) ≡ turn_row asked p file
      rows_are =
          λ i k l. record {
            function = k;
            cycles = told_end (turn_of (by i) (goes i) (run_span Cycles p file) l.test l.statements);
            questions = told_end (turn_of (other_by i) (other_goes i) (run_span asked p file) l.test l.statements);
          }

      turns_rows : all_rows c q (run_span Cycles p file) (run_span asked p file) made ≡
          turn_rows asked p file file.order
      turns_rows =
          turns_of_trees made ∙
          ap (λ (row : ℕ → Loop → Turn). turns_told row (told_trees made)) rows_are ∙
          ap (turns_told (turn_row asked p file)) (told_are file resolved made same) ∙ turns_of_file file.order

      pub has_rows : (spans : SourceSpans) → spans.runs.items ≡ rows_in c q made →
          spans.turns.items ≡ all_rows c q (run_span Cycles p file) (run_span asked p file) made →
          HasRows asked p file spans
      has_rows spans first second = record { runs = first ∙ runs_rows; turns = second ∙ turns_rows }

-- what is told of a source, by what is told of each file that its trees may be
pub spans_are : (asked : Counted) (p : Profile) (told : Option (List ℕ)) (before after : TreeMaker)
    (names : Pools) (spans : SourceSpans) → TreeMakerRepresents before p [] →
    ParsesToFile (λ p acts. TreeMakerRepresents before p acts) (λ p acts. TreeMakerRepresents after p acts)
    told names →
    ((file : File) → IsResolved file → told_functions file.functions file.order ≡ told_trees after.functions →
    HasRows asked p file spans) →
    AreSpansOf asked p told spans
spans_are asked p told before after names spans new is rows =
    let file = is.file in
    record {
      file = file;
      resolved = is.resolved;
      rows = rows file is.resolved (trees_are after p file is.closed (is.built p new));
      is = λ bytes tells. is.is bytes tells p new;
    }
