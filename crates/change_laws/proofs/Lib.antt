mod DeletedVar
