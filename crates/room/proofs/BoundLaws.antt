-- From the trees of a source to its bounds.
use Rattle.std.specs.Prelude.{ℕ, ◌≡◌, List, [], map, unwrap_or, Bool, true, Option, Some, None, Result, Ok, Err}
use Rattle.std.proofs.Common.{ap, sym, ◌∙◌, subst, arith}
use Rattle.grammar.specs.declared.diagnostics.ParseFault.{ParseFault}
use Rattle.grammar.specs.declared.diagnostics.ParseFault.TheVariants as parse_fault
use Rattle.grammar.specs.Actions.{actions}
use Rattle.grammar.specs.Building.{Representation, LeavesOpen}
use Rattle.grammar.specs.Profile.{Profile}
use Rattle.grammar.specs.ProfileNumbers.{IsProfile}
use Rattle.grammar.specs.Resolved.{IsAmong, IsResolved}
use Rattle.grammar.specs.Tree.{File}
use Rattle.code.proofs.Bounds.{few_words, few_frames}
use Rattle.parser.specs.ParsedFiles.{ParsesToFile, ParseIsRefused, TakesEnough}
use Rattle.grammar.specs.Compiled.{main_name}
use Rattle.grammar.specs.Pools.{FunctionNames, Pools}
use Rattle.grammar.specs.Scope.{number_of_name}
use Rattle.trees.specs.Laws.{UnnamedFunction, told_functions, told_trees}
use Rattle.trees.specs.TreeMakers.{TreeMaker, TreeMakerRepresents}
use Rattle.trees.proofs.Rebuilding.{actions_determine_trees}
use Rattle.trees.proofs.ReplayLaws.{is_done}
use Rattle.room.specs.declared.room.Room.{Room}
use Rattle.room.specs.Bounds.{AreBoundsOf, IsChainOf, IsRefusedSource, goes_by}
use Rattle.room.specs.Chains.{CallNoOthers, IsChain, numbers}
use Rattle.room.specs.Counting.{counted}
use Rattle.room.specs.Functions.{HasRoom, need_of}
use Rattle.room.specs.Rooms.{IsWithin}
use Rattle.room.proofs.AtReturn.{restarts_at_return}
use Rattle.room.proofs.TableLaws.{calls_no_others, is_numbered}

-- the trees are the file's
pub trees_are : (m : TreeMaker) (p : Profile) (file : File) → LeavesOpen (λ p acts. TreeMakerRepresents m p acts) [] →
    TreeMakerRepresents m p (actions file) → told_functions file.functions file.order ≡ told_trees m.functions
trees_are m p file closed stands =
    actions_determine_trees file m.functions ((is_done m closed).each p (actions file) stands)

-- what is said for each profile that the maker goes by is said for its own
pub takes : {A : Type 0} (result : Result A ParseFault) (m : TreeMaker) (p : Profile) (told to_come : Option (List ℕ)) →
    TreeMakerRepresents m p [] → TakesEnough result (λ p acts. TreeMakerRepresents m p acts) told to_come →
    TakesEnough result (goes_by p) told to_come
takes (Ok x) m p told to_come new took =
    λ bytes is q by. took bytes is q (subst (λ (q : Profile). TreeMakerRepresents m q []) (sym by) new)
takes (Err (parse_fault.Source d)) m p told to_come new took =
    λ bytes is q by. took bytes is q (subst (λ (q : Profile). TreeMakerRepresents m q []) (sym by) new)
takes (Err parse_fault.Device) m p told to_come new took =
    λ bytes is q by. took bytes is q (subst (λ (q : Profile). TreeMakerRepresents m q []) (sym by) new)
takes (Err parse_fault.Memory) m p told to_come new took =
    λ bytes is q by. took bytes is q (subst (λ (q : Profile). TreeMakerRepresents m q []) (sym by) new)

pub refuses : (fault : ParseFault) (m : TreeMaker) (p : Profile) (after : Representation) (denied : Type 0)
    (told to_come : Option (List ℕ)) → TreeMakerRepresents m p [] →
    ParseIsRefused (λ p acts. TreeMakerRepresents m p acts) after denied told to_come fault →
    IsRefusedSource p told fault
refuses (parse_fault.Source d) m p after denied told to_come new fails =
    λ bytes is q by. fails bytes is q (subst (λ (q : Profile). TreeMakerRepresents m q []) (sym by) new)
refuses parse_fault.Device m p after denied told to_come new fails = tt
refuses parse_fault.Memory m p after denied told to_come new fails = tt

-- the profiles give less than is counted
pub counted_within : (p : Profile) (need : Option Room) → IsProfile p → IsWithin p.words p.frames (counted need) →
    IsWithin p.words p.frames need
counted_within p None known within = within
counted_within p (Some r) known within =
    let w = few_words p known in
    let f = few_frames p known in
    (grind (arith, w, within.0), grind (arith, f, within.1))

pub within_counted : (p : Profile) (need : Option Room) → IsWithin p.words p.frames need →
    IsWithin p.words p.frames (counted need)
within_counted p None within = within
within_counted p (Some r) within = (grind (arith, within.0), grind (arith, within.1))

-- what is answered of a file
pub bounds_are : (p : Profile) (told : Option (List ℕ)) (before after : TreeMaker) (names : Pools) (number : Option ℕ)
    (main : ℕ) (need : Option Room) (has_room : Bool) → TreeMakerRepresents before p [] → IsProfile p →
    ParsesToFile (λ p acts. TreeMakerRepresents before p acts) (λ p acts. TreeMakerRepresents after p acts) told names →
    number ≡ number_of_name main_name (map (λ (f : FunctionNames). f.name) names.functions) →
    main ≡ unwrap_or number 0 →
    ((file : File) → IsResolved file → file.main ≡ main →
    told_functions file.functions file.order ≡ told_trees after.functions → need ≡ counted (need_of p file)) →
    (has_room ≡ true → IsWithin p.words p.frames need) → (IsWithin p.words p.frames need → has_room ≡ true) →
    AreBoundsOf p told (record { need = need; has_room = has_room })
bounds_are p told before after names number main need has_room new known is numbered first needs within enough =
    let file = is.file in
    let found : number ≡ Some file.main = numbered ∙ is.main in
    let there : file.main ≡ main = sym (first ∙ ap (λ (o : Option ℕ). unwrap_or o 0) found) in
    let trees = trees_are after p file is.closed (is.built p new) in
    let need_is : need ≡ counted (need_of p file) = needs file is.resolved there trees in
    let sound : has_room ≡ true → HasRoom p file =
    λ yes. counted_within p (need_of p file) known
    (subst (λ (r : Option Room). IsWithin p.words p.frames r) need_is (within yes)) in
    record {
      file = file;
      resolved = is.resolved;
      need = need_is;
      enough = λ has. enough
          (subst (λ (r : Option Room). IsWithin p.words p.frames r) (sym need_is)
          (within_counted p (need_of p file) has));
      sound = sound;
      never = λ yes. restarts_at_return p file is.resolved (sound yes);
      is = λ bytes tells. is.is bytes tells p new;
    }

-- and of the functions that call one another where it needs most
pub chain_are : (p : Profile) (told : Option (List ℕ)) (before after : TreeMaker) (names : Pools) (number : Option ℕ)
    (main : ℕ) (chain : List ℕ) → TreeMakerRepresents before p [] →
    ParsesToFile (λ p acts. TreeMakerRepresents before p acts) (λ p acts. TreeMakerRepresents after p acts) told names →
    number ≡ number_of_name main_name (map (λ (f : FunctionNames). f.name) names.functions) →
    main ≡ unwrap_or number 0 →
    (CallNoOthers (told_trees after.functions) → IsAmong main (numbers (told_trees after.functions)) →
    IsChain p (told_trees after.functions) main chain) → IsChainOf p told chain
chain_are p told before after names number main chain new is numbered first linked =
    let file = is.file in
    let found : number ≡ Some file.main = numbered ∙ is.main in
    let there : main ≡ file.main = first ∙ ap (λ (o : Option ℕ). unwrap_or o 0) found in
    let trees = trees_are after p file is.closed (is.built p new) in
    let fs = told_functions file.functions file.order in
    let closed : CallNoOthers (told_trees after.functions) =
    subst (λ (ts : List UnnamedFunction). CallNoOthers ts) trees (calls_no_others file is.resolved) in
    let among : IsAmong main (numbers (told_trees after.functions)) =
    subst (λ (ts : List UnnamedFunction). IsAmong main (numbers ts)) trees
    (subst (λ (k : ℕ). IsAmong k (numbers fs)) (sym there) (is_numbered file is.resolved file.main is.resolved.main)) in
    record {
      file = file;
      resolved = is.resolved;
      linked =
          subst (λ (k : ℕ). IsChain p fs k chain) there
          (subst (λ (ts : List UnnamedFunction). IsChain p ts main chain) (sym trees) (linked closed among));
      is = λ bytes tells. is.is bytes tells p new;
    }
