use Rattle.realm_tests.proofs.meanwhile.hear.Goals as goal

pub await_end-requires : goal.await_end-requires
await_end-requires c = record { joined = c.requires }
