use Rattle.std.proofs.Common.{rules, None, ◌≡◌, [], ◌∷◌, is_ok, Bool, true, false, subst}
use Rattle.proxy_engine.specs.declared.work.End.TheVariants.{Link}
use Rattle.proxy_turn.specs.Calls.{Connect, Write}
use Rattle.proxy_turn.proofs.effects.open.Goals as goal

pub returns-then-is_err-2-clause-did : goal.returns-then-is_err-2-clause-did
returns-then-is_err-2-clause-did g c =
    let opened : is_ok c.connect.result ≡ true = search rules in
    let written : is_ok c.write.result ≡ false = search rules in
    g.met.K.Sockets.joined _ _ _ (Connect c.args.link c.args.address true ∷ []) (Write (Link c.args.link) c.args.bytes.now None false ∷ [])
    (subst (λ (done : Bool). g.K.Sockets.Did c.args.sockets.now (Connect c.args.link c.args.address done ∷ []) c.connect.new.self) opened c.connect.ensures.did)
    (subst (λ (done : Bool). g.K.Sockets.Did c.connect.new.self (Write (Link c.args.link) c.args.bytes.now None done ∷ []) c.write.new.self) written c.write.ensures.did)

pub returns-clause-did : goal.returns-clause-did
returns-clause-did g c =
    let opened : is_ok c.connect.result ≡ true = search rules in
    let written : is_ok c.write.result ≡ true = search rules in
    g.met.K.Sockets.joined _ _ _ (Connect c.args.link c.args.address true ∷ []) (Write (Link c.args.link) c.args.bytes.now None true ∷ [])
    (subst (λ (done : Bool). g.K.Sockets.Did c.args.sockets.now (Connect c.args.link c.args.address done ∷ []) c.connect.new.self) opened c.connect.ensures.did)
    (subst (λ (done : Bool). g.K.Sockets.Did c.connect.new.self (Write (Link c.args.link) c.args.bytes.now None done ∷ []) c.write.new.self) written c.write.ensures.did)
