use Rattle.parser.proofs.scoped_cursor.declare_in.Goals as goal

pub returns-in_ok-declare_external-in-Externals-clause-learned :
    goal.returns-in_ok-declare_external-in-Externals-clause-learned
returns-in_ok-declare_external-in-Externals-clause-learned c line =
    rw c.in-Externals.is (c.in_ok-declare_external-in-Externals.ensures.learned line)

pub returns-in_ok-declare_parameter-in-Parameters-clause-learned :
    goal.returns-in_ok-declare_parameter-in-Parameters-clause-learned
returns-in_ok-declare_parameter-in-Parameters-clause-learned c line =
    rw c.in-Parameters.is (c.in_ok-declare_parameter-in-Parameters.ensures.learned line)

pub returns-in_ok-declare_parameter_type-in-TypedParameters-clause-learned :
    goal.returns-in_ok-declare_parameter_type-in-TypedParameters-clause-learned
returns-in_ok-declare_parameter_type-in-TypedParameters-clause-learned c line =
    rw c.in-TypedParameters.is (c.in_ok-declare_parameter_type-in-TypedParameters.ensures.learned line)

pub returns-in_ok-declare_local-in-Locals-clause-learned : goal.returns-in_ok-declare_local-in-Locals-clause-learned
returns-in_ok-declare_local-in-Locals-clause-learned c line =
    rw c.in-Locals.is (c.in_ok-declare_local-in-Locals.ensures.learned line)
