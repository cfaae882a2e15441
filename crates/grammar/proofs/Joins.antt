-- Statements of one body and then those of another.
use Rattle.std.proofs.Common.{◌≡◌, refl, ap}
use Rattle.grammar.specs.Tree.{ExpressionStatement, Body, IfElseStatement, Done, Return, IfStatement, While, join}

pub join_done : (b : Body) → join b Done ≡ b
join_done Done = refl
join_done (ExpressionStatement e rest) = ap (λ (r : Body). ExpressionStatement e r) (join_done rest)
join_done (IfStatement c s rest) = ap (λ (r : Body). IfStatement c s r) (join_done rest)
join_done (IfElseStatement c s t rest) = ap (λ (r : Body). IfElseStatement c s t r) (join_done rest)
join_done (While c s rest) = ap (λ (r : Body). While c s r) (join_done rest)
join_done (Return e rest) = ap (λ (r : Body). Return e r) (join_done rest)

pub join_assoc : (a b c : Body) → join (join a b) c ≡ join a (join b c)
join_assoc Done b c = refl
join_assoc (ExpressionStatement e rest) b c = ap (λ (r : Body). ExpressionStatement e r) (join_assoc rest b c)
join_assoc (IfStatement x s rest) b c = ap (λ (r : Body). IfStatement x s r) (join_assoc rest b c)
join_assoc (IfElseStatement x s t rest) b c = ap (λ (r : Body). IfElseStatement x s t r) (join_assoc rest b c)
join_assoc (While x s rest) b c = ap (λ (r : Body). While x s r) (join_assoc rest b c)
join_assoc (Return e rest) b c = ap (λ (r : Body). Return e r) (join_assoc rest b c)
